-- The second pass over the record lines of a text. Assumes nothing.
--   Filling, begin, more, done    the loop
--   ends-in, no_row, no-outside   while a record is left, the next line is a record line with its LF
--   same_length, room             the slice keeps its length and has room for a record
use mathlib.Core.Path.{◌≡◌, refl, sym, ap, ap₂, ◌∙◌}
use mathlib.Core.Bool.{true}
use mathlib.Core.Logic.{inl, inr}
use mathlib.Core.List.{List, [], ◌∷◌, ◌++◌}
use Prim.Native.Nat.{ℕ, ◌+◌, ◌-◌, ◌*◌, ◌≤◌, ◌<◌}
use native.Mathlib.Nat.{eq-or-lt_of_le}
use native.Mathlib.Omega.{arith}
use lib.ListN.{length, take, drop, length-drop}
use lib.Seq.{sets, length-sets, take_all, take_at, drop_at, take-add, drop-drop, length-take-le}
use Rattle.operations.specs.Limits.{record_words}
use Rattle.grammar.specs.Words.{lf, tab, Edition}
use Rattle.grammar.specs.Print.{LineRow, Line, row_line, record_line, outside}
use Rattle.grammar.specs.Cut.{pieces, before}
use Rattle.grammar.specs.Line.{line_of}
use Rattle.grammar.specs.Lines.{lines_from, first_bad, words_in}
use Rattle.grammar.proofs.Cuts.{before-le}
use Rattle.grammar.proofs.Sorted.{bad-any}
use Rattle.table_lines.specs.Fill.{RecordsWait, RecordsRead}
use Rattle.printing.specs.Put.{Put}
use Rattle.printing.proofs.Puts.{sets-append}
use Rattle.table_lines.proofs.Surveys.{lines-on, lines-last, lines_end}

pub record Filling (ed : Edition) (text : List ℕ) (from at i k n : ℕ) (ws ws' : List ℕ) : Type 0 where
  pub index : i ≡ record_words * k
  pub inside : at ≤ length text
  pub good : first_bad true 1 (lines_from ed (drop at text)) ≡ 0
  pub count : record_words * n ≡ length (words_in (lines_from ed (drop from text)))
  pub rest : words_in (lines_from ed (drop at text)) ≡ drop i (words_in (lines_from ed (drop from text)))
  pub words_are : ws' ≡ sets ws 0 (take i (words_in (lines_from ed (drop from text))))
  pub few : k ≤ n

pub begin : (ed : Edition) (text : List ℕ) (from n : ℕ) (ws : List ℕ) → RecordsWait ed text from n ws → Filling ed text from from 0 0 n ws ws
begin ed text from n ws h = record { index = omega arith; inside = h.inside; good = h.good; count = h.count; rest = refl; words_are = refl; few = omega arith }

module _ {ed : Edition} {text : List ℕ} {from at i k n : ℕ} {ws ws' : List ℕ} (s : Filling ed text from at i k n ws ws') where
  pub same_length : length ws' ≡ length ws
  same_length = ap length s.words_are ∙ length-sets ws 0 (take i (words_in (lines_from ed (drop from text))))

  good-next : (ls : List Line) → lines_from ed (drop at text) ≡ ls → first_bad true 1 ls ≡ 0
  good-next ls e = sym (ap (first_bad true 1) e) ∙ s.good

  words-next : (ls : List Line) → lines_from ed (drop at text) ≡ ls → words_in ls ≡ drop i (words_in (lines_from ed (drop from text)))
  words-next ls e = sym (ap words_in e) ∙ s.rest

  pub ends-in : (e : ℕ) → e ≡ at + before lf (drop at text) → k < n → e < length text
  unfolding first_bad words_in
  ends-in e h l =
      elim (eq-or-lt_of_le inside) [
        | inr m ↦ m
        | inl m ↦ elim (eq-or-lt_of_le s.inside) [
          | inl z ↦ absurd (omega (arith, l, s.index, s.count, length-drop i (words_in (lines_from ed (drop from text))), ap length (words-next [] (lines_end ed text at (omega arith)))))
          | inr z ↦ absurd (omega (arith, good-next (outside ∷ []) (lines-last ed text at e h z m)))
        ]
      ]
    where
      inside : e ≤ length text
      inside = omega (arith, h, before-le lf (drop at text), length-drop at text, s.inside)

  module _ (e : ℕ) (h : e ≡ at + before lf (drop at text)) (m : k < n) (l : Line) (is : l ≡ line_of ed (pieces tab (take (e - at) (drop at text)))) where
    here : (x : Line) → l ≡ x → lines_from ed (drop at text) ≡ x ∷ lines_from ed (drop (e + 1) text)
    here x o = lines-on ed text at e h (ends-in e h m) ∙ ap {B = List Line} (λ (y : Line). y ∷ lines_from ed (drop (e + 1) text)) (sym is ∙ o)

    pub no_row : (r : LineRow) → l ≡ row_line r → ⊥
    unfolding first_bad
    no_row r o = omega (arith, good-next (row_line r ∷ lines_from ed (drop (e + 1) text)) (here (row_line r) o))

    pub no-outside : l ≡ outside → ⊥
    unfolding first_bad
    no-outside o = omega (arith, good-next (outside ∷ lines_from ed (drop (e + 1) text)) (here outside o))

    -- the words of the record are put
    pub more : {ws'' : List ℕ} {j : ℕ} (new : List ℕ) → length new ≡ record_words → l ≡ record_line new → Put ws' ws'' i j new → Filling ed text from (e + 1) j (k + 1) n ws ws''
    unfolding first_bad words_in
    more {j = j} new size o put =
        let there = here (record_line new) o in
        let all = words_in (lines_from ed (drop from text)) in
        let tail = words_in (lines_from ed (drop (e + 1) text)) in
        let split = words-next (record_line new ∷ lines_from ed (drop (e + 1) text)) there in
        let n : 0 + length (take i all) ≡ i = omega (arith, length-take-le i all (omega (arith, s.index, s.count, m))) in
        let next : i + record_words ≡ j = omega (arith, put.ends, size) in
        record {
          index = omega (arith, s.index, put.ends, size);
          inside = omega (arith, ends-in e h m);
          good = bad-any true 1 1 (lines_from ed (drop (e + 1) text)) (good-next (record_line new ∷ lines_from ed (drop (e + 1) text)) there);
          count = s.count;
          rest = sym (drop_at new tail record_words size) ∙ ap (drop record_words) split ∙ drop-drop record_words i all ∙ ap (λ (x : ℕ). drop x all) next;
          words_are = put.text
              ∙ ap₂ (λ (w : List ℕ) (x : ℕ). sets w x new) s.words_are (sym n)
              ∙ sym (sets-append ws 0 (take i all) new)
              ∙ ap (λ (y : List ℕ). sets ws 0 (take i all ++ y)) (sym (ap (take record_words) (sym split) ∙ take_at new tail record_words size))
              ∙ ap (sets ws 0) (sym (take-add i record_words all) ∙ ap (λ (x : ℕ). take x all) next);
          few = omega (arith, m);
        }

  pub done : n ≤ k → RecordsRead ed text from ws ws'
  done h = record { words_are = s.words_are ∙ ap (sets ws 0) (take_all i (words_in (lines_from ed (drop from text))) (omega (arith, h, s.index, s.count))) }

  pub room : k < n → record_words * n ≤ length ws → i + record_words ≤ length ws'
  room m h = omega (arith, s.index, same_length)
