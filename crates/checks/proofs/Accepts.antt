-- Acceptance: from the answer to the fields of Accepted and TablePassed, and back. Assumes nothing.
use mathlib.Core.Path.{◌≡◌}
use mathlib.Core.List.{List, ◌++◌}
use Prim.Native.Nat.{ℕ, ◌%◌, ◌<◌}
use lib.Dec.{T_not, not_T, eqb, nltb→le, eqb→eq}
use lib.Arith.{le→nltb}
use lib.ListN.{length, get_or}
use Rattle.bits.proofs.Bools.{eq→eqb, T_not-not, not_not_T}
use Rattle.vectors.proofs.Lists.{all-imp, none-all, all_none}
use Rattle.operations.specs.Limits.{record_words}
use Rattle.operations.specs.Record.{target_rows}
use Rattle.operations.specs.Faults.{record_faults, lock_fault}
use Rattle.checks.specs.Check.{done, Check, placed, verdict, Passed}
use Rattle.checks.specs.Table.{Table, record_count, record_of}
use Rattle.checks.specs.Checks.{row_shape_faults, word_faults, stretch_faults, row_faults_at, row_checks, record_checks, open_checks, run_checks, size_checks}
use Rattle.checks.specs.Accepted.{RecordPassed, TablePassed, Accepted}
use Rattle.checks.proofs.Verdicts.{passed-append, passed-left, passed-right, rising-intro, rising-elim, done-of-passed, passed-of-done}
use Rattle.checks.proofs.RowChecks.{row-of-passed, passed-of-row, positive, not-zero}
use Rattle.checks.proofs.RecordChecks.{record-of-passed, passed-of-record}

-- ---- the lists, part by part

abbrev shape : Table → List Check
shape t = placed 0 (row_shape_faults t)

abbrev counted : Table → List Check
counted t = placed 0 (word_faults t)

abbrev spanned : Table → ℕ → ℕ → List Check
spanned t first last = placed 0 (stretch_faults t first last)

abbrev closed : Table → ℕ → List Check
closed t i = placed i (record_faults t.widths (record_of t i))

abbrev opened : Table → ℕ → List Check
opened t i = placed i (lock_fault t.locks (record_of t i))

-- ---- the parts that lists share

pub table-of-parts : (t : Table) → Passed (shape t) → Passed (counted t) → Passed (row_checks t)
    → ((i : ℕ) → i < record_count t → RecordPassed t.widths (record_of t i)) → TablePassed t
table-of-parts t P Q R S =
    record {
      rows_least = positive (length t.widths) P.0;
      rows_most = nltb→le _ _ P.1.0;
      locks_length = eqb→eq _ _ (T_not-not (eqb (length t.locks) (length t.widths)) P.1.1.0);
      masks_length = eqb→eq _ _ (T_not-not (eqb (length t.masks) (length t.widths)) P.1.1.1.0);
      values_length = eqb→eq _ _ (T_not-not (eqb (length t.values) (length t.widths)) P.1.1.1.1.0);
      words_whole = eqb→eq _ _ (T_not-not (eqb (length t.words % record_words) 0) Q.0);
      records_most = nltb→le _ _ Q.1.0;
      row_passed = λ i h. row-of-passed t i i (rising-elim (λ i. placed i (row_faults_at t i)) (length t.widths) R i h);
      record_passed = S;
    }

pub shape-passed : (t : Table) → TablePassed t → Passed (shape t)
shape-passed t A = (
  not-zero (length t.widths) A.rows_least,
  (
    le→nltb _ _ A.rows_most,
    (
      not_not_T (eqb (length t.locks) (length t.widths)) (eq→eqb A.locks_length),
      (
        not_not_T (eqb (length t.masks) (length t.widths)) (eq→eqb A.masks_length),
        (not_not_T (eqb (length t.values) (length t.widths)) (eq→eqb A.values_length), tt),
      ),
    ),
  ),
)

pub words-passed : (t : Table) → TablePassed t → Passed (counted t)
words-passed t A = (not_not_T (eqb (length t.words % record_words) 0) (eq→eqb A.words_whole), (le→nltb _ _ A.records_most, tt))

pub rows-passed : (t : Table) → TablePassed t → Passed (row_checks t)
rows-passed t A = rising-intro (λ i. placed i (row_faults_at t i)) (length t.widths) (λ i h. passed-of-row t i i (A.row_passed i h))

-- ---- size's checks

module _ (t : Table) where
  pub table-of-passed : Passed (size_checks t) → TablePassed t
  unfolding size_checks
  table-of-passed P =
      let Q = passed-right (shape t) (counted t ++ (row_checks t ++ record_checks t)) P in
      let R = passed-right (counted t) (row_checks t ++ record_checks t) Q in
      table-of-parts t (passed-left (shape t) (counted t ++ (row_checks t ++ record_checks t)) P)
      (passed-left (counted t) (row_checks t ++ record_checks t) Q) (passed-left (row_checks t) (record_checks t) R)
      (λ i h. record-of-passed t.widths (record_of t i) i (rising-elim (closed t) (record_count t) (passed-right (row_checks t) (record_checks t) R) i h))

  pub passed-of-table : TablePassed t → Passed (size_checks t)
  unfolding size_checks
  passed-of-table A =
      passed-append (shape t) (counted t ++ (row_checks t ++ record_checks t)) (shape-passed t A)
      (passed-append (counted t) (row_checks t ++ record_checks t) (words-passed t A)
      (passed-append (row_checks t) (record_checks t) (rows-passed t A)
      (rising-intro (closed t) (record_count t) (λ i h. passed-of-record t.widths (record_of t i) i (A.record_passed i h)))))

  -- from the answer to the fields, and from the fields to the answer
  pub table-of-answer : {A : Type 0} (a b : A) → verdict (size_checks t) a ≡ done b → TablePassed t
  table-of-answer a b e = table-of-passed (passed-of-done (size_checks t) a b e)

  pub answer-of-table : {A : Type 0} (a : A) → TablePassed t → verdict (size_checks t) a ≡ done a
  answer-of-table a P = done-of-passed (size_checks t) a (passed-of-table P)

-- ---- run's checks

module _ (t : Table) (first last : ℕ) where
  abbrev tail₃ : List Check
  tail₃ = row_checks t ++ open_checks t

  abbrev tail₂ : List Check
  tail₂ = spanned t first last ++ tail₃

  abbrev tail₁ : List Check
  tail₁ = counted t ++ tail₂

  pub accepted-of-passed : Passed (run_checks t first last) → Accepted t first last
  unfolding run_checks lock_fault
  accepted-of-passed P =
      let Q = passed-right (shape t) tail₁ P in
      let R = passed-right (counted t) tail₂ Q in
      let S = passed-left (spanned t first last) tail₃ R in
      let U = passed-right (spanned t first last) tail₃ R in
      let each = rising-elim (λ i. closed t i ++ opened t i) (record_count t) (passed-right (row_checks t) (open_checks t) U) in
      record {
        table = table-of-parts t (passed-left (shape t) tail₁ P) (passed-left (counted t) tail₂ Q) (passed-left (row_checks t) (open_checks t) U)
            (λ i h. record-of-passed t.widths (record_of t i) i (passed-left (closed t i) (opened t i) (each i h)));
        ordered = nltb→le _ _ S.0;
        within = nltb→le _ _ S.1.0;
        open_targets = λ i h.
            all-imp (λ j z e. T_not (eqb (get_or t.locks j 0) 1) z (eq→eqb e)) (target_rows (record_of t i))
            (none-all (λ j. eqb (get_or t.locks j 0) 1) (target_rows (record_of t i)) (passed-right (closed t i) (opened t i) (each i h)).0);
      }

  pub passed-of-accepted : Accepted t first last → Passed (run_checks t first last)
  unfolding run_checks lock_fault
  passed-of-accepted A =
      passed-append (shape t) tail₁ (shape-passed t A.table)
      (passed-append (counted t) tail₂ (words-passed t A.table)
      (passed-append (spanned t first last) tail₃ (le→nltb _ _ A.ordered, (le→nltb _ _ A.within, tt))
      (passed-append (row_checks t) (open_checks t) (rows-passed t A.table)
      (rising-intro (λ i. closed t i ++ opened t i) (record_count t)
      (λ i h. passed-append (closed t i) (opened t i)
      (passed-of-record t.widths (record_of t i) i (A.table.record_passed i h)) (
        all_none (λ j. eqb (get_or t.locks j 0) 1) (target_rows (record_of t i))
            (all-imp (λ j d. not_T (eqb (get_or t.locks j 0) 1) (λ q. d (eqb→eq _ _ q))) (target_rows (record_of t i)) (A.open_targets i h)),
        tt,
      ))))))

  pub accepted-of-answer : {A : Type 0} (a b : A) → verdict (run_checks t first last) a ≡ done b → Accepted t first last
  accepted-of-answer a b e = accepted-of-passed (passed-of-done (run_checks t first last) a b e)

  pub answer-of-accepted : {A : Type 0} (a : A) → Accepted t first last → verdict (run_checks t first last) a ≡ done a
  answer-of-accepted a P = done-of-passed (run_checks t first last) a (passed-of-accepted P)
