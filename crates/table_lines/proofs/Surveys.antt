-- The first pass over the lines of a text: what is counted and what is left make up the whole. Assumes nothing.
--   lines-on, lines-last, lines_end      the lines from a place on, by the first of them
--   Surveying, begin, more-row, more-record, ended   the loop
--   no_end, outside-line, late-row       the ways out with a bad line
use mathlib.Core.Path.{◌≡◌, refl, sym, ap, ap₂, ◌∙◌, subst}
use mathlib.Core.Bool.{Bool, true, false}
use mathlib.Core.List.{List, [], ◌∷◌}
use Prim.Native.Nat.{ℕ, suc, ◌+◌, ◌-◌, ◌*◌, ◌≤◌, ◌<◌}
use native.Mathlib.Numerals.{add-one}
use native.Mathlib.Omega.{arith}
use lib.Dec.{ltb}
use lib.ListN.{length, take, drop, length-drop, length-append, drop_of_length-le}
use lib.Seq.{drop-drop, length-take-le}
use borrow.Author.Tests.{lt-ltb, le-ltb}
use Rattle.operations.specs.Limits.{record_words}
use Rattle.grammar.specs.Words.{lf, tab, Edition}
use Rattle.grammar.specs.Print.{LineRow, Line, row_line, record_line, outside}
use Rattle.grammar.specs.Cut.{pieces, before}
use Rattle.grammar.specs.Line.{line_of}
use Rattle.grammar.specs.Lines.{lines_of, lines_from, first_bad, rows_in, words_in}
use Rattle.grammar.proofs.Cuts.{pieces-first, pieces-last, before-le}
use Rattle.grammar.proofs.WriteRead.{next-line}
use Rattle.table_lines.specs.Fill.{Surveyed}

-- ---- the lines from a place on

last_line : (ed : Edition) (p : List ℕ) → 1 ≤ length p → lines_of ed (p ∷ []) ≡ outside ∷ []
unfolding lines_of
last_line ed [] h = absurd (omega arith)
last_line ed (b ∷ p) h = refl

module _ (ed : Edition) (text : List ℕ) (at e : ℕ) (ends : e ≡ at + before lf (drop at text)) where
  -- the line from `at` to e, and the lines after it
  pub lines-on : e < length text → lines_from ed (drop at text) ≡ line_of ed (pieces tab (take (e - at) (drop at text))) ∷ lines_from ed (drop (e + 1) text)
  lines-on h =
      let k : before lf (drop at text) ≡ e - at = omega arith in
      let j : at + suc (before lf (drop at text)) ≡ e + 1 = omega arith in
      ap (lines_of ed) (pieces-first lf (drop at text) (omega (arith, length-drop at text)))
      ∙ next-line ed (take (before lf (drop at text)) (drop at text)) (drop (suc (before lf (drop at text))) (drop at text))
      ∙ ap₂ {C = List Line} (λ (x : ℕ) (y : List ℕ). line_of ed (pieces tab (take x (drop at text))) ∷ lines_of ed (pieces lf y)) k
      (drop-drop (suc (before lf (drop at text))) at text ∙ ap (λ (x : ℕ). drop x text) j)

  pub lines-last : at < length text → e ≡ length text → lines_from ed (drop at text) ≡ outside ∷ []
  lines-last h l =
      let k : before lf (drop at text) ≡ length (drop at text) = omega (arith, length-drop at text) in
      ap (lines_of ed) (pieces-last lf (drop at text) k)
      ∙ last_line ed (take (before lf (drop at text)) (drop at text)) (omega (arith, length-take-le (before lf (drop at text)) (drop at text) (before-le lf (drop at text)), k, length-drop at text))

pub lines_end : (ed : Edition) (text : List ℕ) (at : ℕ) → length text ≤ at → lines_from ed (drop at text) ≡ []
unfolding lines_of pieces
lines_end ed text at h = ap (lines_from ed) (drop_of_length-le text h)

-- ---- what holds at each turn

pub record Surveying (ed : Edition) (first : ℕ) (text : List ℕ) (at n rows records : ℕ) : Type 0 where
  pub inside : at ≤ length text
  pub counted : 1 ≤ first
  pub few_lines : n ≤ first + at
  pub few_rows : first + rows ≤ n
  pub few_records : first + records ≤ n
  pub bad_left : first_bad (ltb 0 records) n (lines_from ed (drop at text)) ≡ first_bad false first (lines_from ed text)
  pub rows_left : rows + length (rows_in (lines_from ed (drop at text))) ≡ length (rows_in (lines_from ed text))
  pub words_left : record_words * records + length (words_in (lines_from ed (drop at text))) ≡ length (words_in (lines_from ed text))

pub begin : (ed : Edition) (first : ℕ) (text : List ℕ) → 1 ≤ first → Surveying ed first text 0 first 0 0
begin ed first text h = record { inside = omega arith; counted = h; few_lines = omega arith; few_rows = omega arith; few_records = omega arith; bad_left = refl; rows_left = omega arith; words_left = omega arith }

module _ {ed : Edition} {first : ℕ} {text : List ℕ} {at n rows records : ℕ} (s : Surveying ed first text at n rows records) (e : ℕ) (ends : e ≡ at + before lf (drop at text)) where
  bad-now : (l : Line) (ls : List Line) → lines_from ed (drop at text) ≡ l ∷ ls → first_bad (ltb 0 records) n (l ∷ ls) ≡ first_bad false first (lines_from ed text)
  bad-now l ls h = sym (ap (first_bad (ltb 0 records) n) h) ∙ s.bad_left

  bad-here : n ≡ first_bad false first (lines_from ed text) → Surveyed ed first text n 0 0
  bad-here h = record { bad_is = h; rows_is = λ z. absurd (omega (arith, s.counted, s.few_rows)); words_is = λ z. absurd (omega (arith, s.counted, s.few_rows)); few = omega arith }

  -- no LF is left
  pub no_end : at < length text → e ≡ length text → Surveyed ed first text n 0 0
  unfolding first_bad
  no_end h l = bad-here (bad-now outside [] (lines-last ed text at e ends h l))

  module _ (h : e < length text) (l : Line) (is : l ≡ line_of ed (pieces tab (take (e - at) (drop at text)))) where
    here : (m : Line) → l ≡ m → lines_from ed (drop at text) ≡ m ∷ lines_from ed (drop (e + 1) text)
    here m o = lines-on ed text at e ends h ∙ ap {B = List Line} (λ (x : Line). x ∷ lines_from ed (drop (e + 1) text)) (sym is ∙ o)

    pub outside-line : l ≡ outside → Surveyed ed first text n 0 0
    unfolding first_bad
    outside-line o = bad-here (bad-now outside (lines_from ed (drop (e + 1) text)) (here outside o))

    pub late-row : (r : LineRow) → l ≡ row_line r → 0 < records → Surveyed ed first text n 0 0
    unfolding first_bad
    late-row r o g =
        bad-here (sym (ap (λ (b : Bool). first_bad b n (row_line r ∷ lines_from ed (drop (e + 1) text))) (lt-ltb 0 records g)) ∙ bad-now (row_line r) (lines_from ed (drop (e + 1) text)) (here (row_line r) o))

    pub more-row : (r : LineRow) → l ≡ row_line r → records ≤ 0 → Surveying ed first text (e + 1) (n + 1) (rows + 1) records
    unfolding first_bad rows_in words_in
    more-row r o z =
        let there = here (row_line r) o in
        let b : ltb 0 records ≡ false = le-ltb 0 records z in
        record {
          inside = omega (arith, h);
          counted = s.counted;
          few_lines = omega (arith, s.few_lines, ends);
          few_rows = omega (arith, s.few_rows);
          few_records = omega (arith, s.few_records);
          bad_left = ap (λ (x : Bool). first_bad x (n + 1) (lines_from ed (drop (e + 1) text))) b
              ∙ ap (λ (x : ℕ). first_bad false x (lines_from ed (drop (e + 1) text))) (add-one n)
              ∙ sym (ap (λ (x : Bool). first_bad x n (row_line r ∷ lines_from ed (drop (e + 1) text))) b)
              ∙ bad-now (row_line r) (lines_from ed (drop (e + 1) text)) there;
          rows_left = omega (arith, s.rows_left, ap (λ (x : List Line). length (rows_in x)) there);
          words_left = sym (ap (λ (x : List Line). record_words * records + length (words_in x)) there) ∙ s.words_left;
        }

    pub more-record : (ws : List ℕ) → l ≡ record_line ws → length ws ≡ record_words → Surveying ed first text (e + 1) (n + 1) rows (records + 1)
    unfolding first_bad rows_in words_in
    more-record ws o z =
        let there = here (record_line ws) o in
        let b : ltb 0 (records + 1) ≡ true = lt-ltb 0 (records + 1) (omega arith) in
        record {
          inside = omega (arith, h);
          counted = s.counted;
          few_lines = omega (arith, s.few_lines, ends);
          few_rows = omega (arith, s.few_rows);
          few_records = omega (arith, s.few_records);
          bad_left = ap₂ (λ (x : Bool) (y : ℕ). first_bad x y (lines_from ed (drop (e + 1) text))) b (add-one n) ∙ bad-now (record_line ws) (lines_from ed (drop (e + 1) text)) there;
          rows_left = sym (ap (λ (x : List Line). rows + length (rows_in x)) there) ∙ s.rows_left;
          words_left = omega (arith, s.words_left, ap (λ (x : List Line). length (words_in x)) there, length-append ws (words_in (lines_from ed (drop (e + 1) text))), z);
        }

pub ended : {ed : Edition} {first : ℕ} {text : List ℕ} {at n rows records : ℕ} → Surveying ed first text at n rows records → length text ≤ at → Surveyed ed first text 0 rows records
unfolding first_bad rows_in words_in
ended {ed} {first} {text} {at} {n} {rows} {records} s h =
    let e = lines_end ed text at h in
    record {
      bad_is = sym (ap (first_bad (ltb 0 records) n) e) ∙ s.bad_left;
      rows_is = λ z. omega (arith, s.rows_left, ap (λ (x : List Line). length (rows_in x)) e);
      words_is = λ z. omega (arith, s.words_left, ap (λ (x : List Line). length (words_in x)) e);
      few = omega (arith, s.few_records, s.few_lines, s.inside);
    }

pub with-counts : {ed : Edition} {first : ℕ} {text : List ℕ} {at n r k : ℕ} (r' k' : ℕ) → r' ≡ r → k' ≡ k → Surveying ed first text at n r k → Surveying ed first text at n r' k'
with-counts {ed} {first} {text} {at} {n} {r} {k} r' k' e f s = subst (λ (y : ℕ). Surveying ed first text at n r' y) (sym f) (subst (λ (x : ℕ). Surveying ed first text at n x k) (sym e) s)
