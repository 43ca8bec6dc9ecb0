-- A stretch of records as the code steps through it: a part of the words, from its first record on. Assumes nothing.
use mathlib.Core.Path.{◌≡◌, refl, sym, ap, ◌∙◌, subst}
use mathlib.Core.List.{List, []}
use Prim.Native.Nat.{ℕ, zero, suc, ◌+◌, ◌-◌, ◌*◌, ◌/◌, ◌<◌}
use native.Mathlib.Nat.{zero-add}
use native.Mathlib.Numerals.{add-one}
use native.Mathlib.Omega.{arith}
use lib.ListN.{length, take, drop, length-take, length-drop}
use lib.Seq.{drop-drop}
use Rattle.operations.specs.Limits.{record_words}
use Rattle.operations.specs.declared.Record.{Record}
use Rattle.operations.specs.Record.{words_of, effects_of}
use Rattle.checks.specs.Table.{State, Table, start_of, record_of}
use Rattle.checks.specs.Accepted.{RecordPassed, TablePassed, Accepted}
use Rattle.checks.specs.Model.{lent}
use Rattle.steps.specs.Step.{Program, step, after}
use Rattle.tables.specs.Run.{program_of}
use Rattle.steps.specs.States.{StateFits}
use Rattle.tables.specs.Encoding.{StepReady, StretchReady}
use Rattle.tables.proofs.Lists.{inside-part}
use Rattle.tables.proofs.Points.{after-fits}
use Rattle.tables.proofs.Demand3.{start_fits}

-- ---- one turn of the loop

module _ (widths part : List ℕ) (s₀ : State) (R : StretchReady widths s₀ part) where
  abbrev P : Program
  P = program_of (lent widths [] [] [] part)

  pub at-fits : (i : ℕ) (s : State) → s ≡ after P 0 i s₀ → StateFits widths s
  at-fits i s e = subst (StateFits widths) (sym e) (after-fits P 0 s₀ R.fits i)

  module _ (i : ℕ) (h : i < length part / record_words) (r : Record) (er : words_of r ≡ record_of (lent [] [] [] [] part) i) (s : State) (e : s ≡ after P 0 i s₀) where
    pub turn-ready : StepReady widths s (words_of r)
    turn-ready =
        record {
          some_row = R.some_row;
          wide = R.wide;
          fits = at-fits i s e;
          passed = subst (RecordPassed widths) (sym er) (R.passed i h);
        }

    pub turn-next : (s' : State) → s' ≡ step widths (effects_of widths (words_of r)) s → s' ≡ after P 0 (i + 1) s₀
    unfolding after
    turn-next s' f =
        f ∙ ap (λ (l : List ℕ). step widths (effects_of widths l) s) er
        ∙ ap (step widths (P.effects i)) e
        ∙ ap (λ (j : ℕ). step widths (P.effects j) (after P 0 i s₀)) (sym (zero-add i))
        ∙ ap (λ (n : ℕ). after P 0 n s₀) (sym (add-one i))

-- ---- the part of the words that a stretch is

-- what a table that passed gives it, from rows that fit
pub stretch-ready : (t : Table) → TablePassed t → (s : State) → StateFits t.widths s → (part : List ℕ)
    → ((i : ℕ) → i < length part / record_words → RecordPassed t.widths (take record_words (drop (record_words * i) part))) → StretchReady t.widths s part
stretch-ready t P s S part R =
    record {
      some_row = P.rows_least;
      wide = λ i h. ((P.row_passed i h).width_least, (P.row_passed i h).width_most);
      fits = S;
      passed = R;
    }

-- programs whose records have the same effects leave the same rows
after_same : (P Q : Program) (first n : ℕ) (s : State) → P.widths ≡ Q.widths → ((j : ℕ) → j < n → P.effects (0 + j) ≡ Q.effects (first + j)) → after P 0 n s ≡ after Q first n s
unfolding after
after_same P Q first zero s w e = refl
after_same P Q first (suc n) s w e =
    let rows = after_same P Q first n s w (λ j h. e j (omega arith)) in
    let es = e n (omega arith) in
    λ ι. step (w ι) (es ι) (rows ι)

module _ (t : Table) (first last : ℕ) (A : Accepted t first last) where
  abbrev part : List ℕ
  part = take (record_words * last - record_words * first) (drop (record_words * first) t.words)

  part_length : length part ≡ record_words * last - record_words * first
  part_length = let w = A.within in simp (length-take, length-drop) (omega arith)

  pub part_count : length part / record_words ≡ last - first
  part_count = let e = part_length in let o = A.ordered in omega arith

  -- record j of the part is record first + j of the table
  part-record : (j : ℕ) → j < last - first → record_of (lent [] [] [] [] part) j ≡ record_of t (first + j)
  part-record j h =
      let e : record_words * first + record_words * j ≡ record_words * (first + j) = omega arith in
      inside-part record_words (record_words * j) (record_words * last - record_words * first) (drop (record_words * first) t.words) (omega arith)
      ∙ ap (take record_words) (drop-drop (record_words * j) (record_words * first) t.words ∙ ap (λ (k : ℕ). drop k t.words) e)

  pub part-ready : StretchReady t.widths (start_of t) part
  part-ready =
      stretch-ready t A.table (start_of t) (start_fits t A.table) part
      (λ j h.
      let e = part_count in
      let w = A.within in
      subst (RecordPassed t.widths) (sym (part-record j (omega arith))) (A.table.record_passed (first + j) (omega arith)))

  -- stepping through the part leaves the rows of the stretch
  pub part-after : after (program_of (lent t.widths [] [] [] part)) 0 (length part / record_words) (start_of t) ≡ after (program_of t) first (last - first) (start_of t)
  part-after =
      ap (λ (n : ℕ). after (program_of (lent t.widths [] [] [] part)) 0 n (start_of t)) part_count
      ∙ after_same (program_of (lent t.widths [] [] [] part)) (program_of t) first (last - first) (start_of t) refl
      (λ j h. ap (λ (i : ℕ). effects_of t.widths (record_of (lent [] [] [] [] part) i)) (zero-add j) ∙ ap (effects_of t.widths) (part-record j h))
