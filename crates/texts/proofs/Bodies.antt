-- What follows the opening of a text, by the opening that the code found. Assumes nothing.
--   edition o, body text o       by which edition it is read, and its bytes as the code lends them
--   lines_are, bad-are           its lines are the text's, and so is the first bad one;   good-lines   none is bad, whatever the count begins with
--   survey-waits, body-inside    what the first pass needs
use mathlib.Core.Path.{◌≡◌, sym, ap, ap₂, ◌∙◌}
use mathlib.Core.Bool.{false}
use mathlib.Core.List.{List}
use Prim.Native.Nat.{ℕ, ◌-◌, ◌≤◌}
use native.Mathlib.Omega.{arith}
use lib.ListN.{length, take, drop, length-drop}
use lib.Seq.{take_all}
use Rattle.grammar.specs.Limits.{text_limit}
use Rattle.grammar.specs.Words.{Edition}
use Rattle.grammar.specs.Lines.{lines_from, Opening as Opened, opening, lines_in, first_bad}
use Rattle.grammar.proofs.Openings.{opening-first, opening-inside, lines_after}
use Rattle.grammar.proofs.Sorted.{bad-from-one}
use Rattle.lines.specs.declared.opening.Opening.{Opening}
use Rattle.letters.specs.Model.{edition_model}
use Rattle.lines.specs.Model.{opening_model}
use Rattle.texts.specs.Calls.{bad_line}

abbrev pub edition : Opening → Edition
edition o = edition_model o.edition

abbrev pub body : List ℕ → Opening → List ℕ
body text o = take (length text - o.at) (drop o.at text)

module _ (text : List ℕ) (o : Opening) (opened : opening_model o ≡ opening text) where
  body_is : body text o ≡ drop o.at text
  body_is = take_all (length text - o.at) (drop o.at text) (omega (arith, length-drop o.at text))

  first-is : o.first ≡ (opening text).first
  first-is = ap (λ (p : Opened). p.first) opened

  pub lines_are : lines_in text ≡ lines_from (edition o) (body text o)
  lines_are = lines_after text ∙ ap (λ (p : Opened). lines_from p.edition (drop p.at text)) (sym opened) ∙ ap (lines_from (edition o)) (sym body_is)

  pub bad-are : first_bad false o.first (lines_from (edition o) (body text o)) ≡ bad_line text
  bad-are = ap₂ (first_bad false) first-is (sym lines_are)

  pub good-lines : bad_line text ≡ 0 → first_bad false 1 (lines_from (edition o) (body text o)) ≡ 0
  good-lines h = bad-from-one o.first (lines_from (edition o) (body text o)) (omega (arith, first-is, (opening-first text).0)) (bad-are ∙ h)

  pub survey-waits : length text ≤ text_limit → (1 ≤ o.first) × (o.first ≤ text_limit) × (length (body text o) ≤ text_limit)
  survey-waits short = (
    omega (arith, first-is, (opening-first text).0),
    omega (arith, first-is, (opening-first text).1),
    omega (arith, ap length body_is, length-drop o.at text),
  )

  pub body-inside : o.at ≤ length text
  body-inside = omega (arith, ap (λ (p : Opened). p.at) opened, opening-inside text)
