-- What is known of the opening of every text. Assumes nothing.
--   by-opening      what holds of the three openings, each where it is found, holds of the opening of a text
--   opening-second, opening-third, opening-bare   with the header of edition 2, with that of edition 3, and with neither
--   opening-first   the first line after it has a number from 1 on, no greater than a text has bytes
--   opening-inside  it lies inside the text
--   opening-known   its edition has well-named kinds alone
--   lines_after     the lines of a text are those after its opening
use mathlib.Core.Path.{◌≡◌, refl, sym, ap, ◌∙◌, subst}
use mathlib.Core.Bool.{not, cond}
use mathlib.Core.List.{List}
use Prim.Native.Nat.{ℕ, ◌≤◌}
use native.Mathlib.Omega.{arith}
use lib.Dec.{T}
use lib.ListN.{length, take, drop, length-take}
use Rattle.grammar.specs.Limits.{text_limit}
use Rattle.grammar.specs.Lists.{same}
use Rattle.grammar.specs.Words.{edition2, edition3, header2, header3}
use Rattle.grammar.specs.Lines.{lines_from, headed_by, Opening, headed_opening, bare_opening, opening, lines_in}
use Rattle.grammar.proofs.Tests.{same→eq}
use Rattle.bits.proofs.Bools.{by_cond, when_true, when_false}
use Rattle.grammar.proofs.Names.{Known, known-all, known-older}

abbrev second : Opening
second = headed_opening edition2 header2

abbrev third : Opening
third = headed_opening edition3 header3

pub by-opening : (P : Opening → Type 0) (text : List ℕ) → (T (headed_by header2 text) → P second) → (T (headed_by header3 text) → P third) → P bare_opening → P (opening text)
unfolding opening
by-opening P text p q r =
    by_cond P (headed_by header2 text) second (cond (headed_by header3 text) third bare_opening) p (λ t. by_cond P (headed_by header3 text) third bare_opening q (λ u. r))

pub opening-second : (text : List ℕ) → T (headed_by header2 text) → opening text ≡ headed_opening edition2 header2
unfolding opening
opening-second text t = when_true (headed_by header2 text) second (cond (headed_by header3 text) third bare_opening) t

-- no text has both headers
not-second : (text : List ℕ) → T (headed_by header3 text) → T (not (headed_by header2 text))
unfolding headed_by same
not-second text t = subst (λ (l : List ℕ). T (not (same l header2))) (sym (same→eq (take (length header3) text) header3 t)) tt

pub opening-third : (text : List ℕ) → T (headed_by header3 text) → opening text ≡ headed_opening edition3 header3
unfolding opening
opening-third text t =
    when_false (headed_by header2 text) second (cond (headed_by header3 text) third bare_opening) (not-second text t)
    ∙ when_true (headed_by header3 text) third bare_opening t

pub opening-bare : (text : List ℕ) → T (not (headed_by header2 text)) → T (not (headed_by header3 text)) → opening text ≡ bare_opening
unfolding opening
opening-bare text t u =
    when_false (headed_by header2 text) second (cond (headed_by header3 text) third bare_opening) t
    ∙ when_false (headed_by header3 text) third bare_opening u

pub opening-first : (text : List ℕ) → (1 ≤ (opening text).first) × ((opening text).first ≤ text_limit)
opening-first text = by-opening (λ (o : Opening). (1 ≤ o.first) × (o.first ≤ text_limit)) text (λ t. (omega arith, omega arith)) (λ t. (omega arith, omega arith)) (omega arith, omega arith)

-- a header is a part of the text
header-inside : (header text : List ℕ) → T (headed_by header text) → length header ≤ length text
unfolding headed_by
header-inside header text t = omega (arith, ap length (same→eq (take (length header) text) header t), length-take (length header) text)

pub opening-inside : (text : List ℕ) → (opening text).at ≤ length text
opening-inside text = by-opening (λ (o : Opening). o.at ≤ length text) text (header-inside header2 text) (header-inside header3 text) (omega arith)

pub opening-known : (text : List ℕ) → Known (opening text).edition.operations
opening-known text = by-opening (λ (o : Opening). Known o.edition.operations) text (λ t. known-older) (λ t. known-all) known-older

pub lines_after : (text : List ℕ) → lines_in text ≡ lines_from (opening text).edition (drop (opening text).at text)
unfolding lines_in
lines_after text = refl
