-- The head and the body of a table's checks: what the head, passed, gives, and the record checks without 10. Assumes nothing.
use mathlib.Core.Path.{◌≡◌, refl}
use mathlib.Core.Bool.{false}
use mathlib.Core.List.{List, append-nil}
use Prim.Native.Nat.{ℕ, zero, suc, ◌≤◌}
use lib.Dec.{eqb, nltb→le, eqb→eq}
use lib.ListN.{length}
use Rattle.bits.proofs.Bools.{T_not-not}
use Rattle.operations.specs.Faults.{record_faults}
use Rattle.bits.specs.Counted.{rising}
use Rattle.checks.specs.Check.{done, Check, placed, Passed}
use Rattle.checks.specs.Limits.{row_limit}
use Rattle.checks.specs.Table.{Table, record_count, record_of}
use Rattle.checks.specs.Checks.{row_shape_faults, word_faults, record_checks}
use Rattle.checks.specs.Encoding.{RowSlices, head_checks, record_with, records_with}
use Rattle.checks.specs.Model.{judged}
use Rattle.checks.proofs.Verdicts.{passed-left, passed-of-done}

-- ---- what the first checks leave

pub slices-of-shape : (t : Table) → Passed (placed 0 (row_shape_faults t)) → (length t.widths ≤ row_limit) × RowSlices t.widths t.locks t.masks t.values
slices-of-shape t P = (
  nltb→le _ _ P.1.0,
  record {
    locks_length = eqb→eq _ _ (T_not-not (eqb (length t.locks) (length t.widths)) P.1.1.0);
    masks_length = eqb→eq _ _ (T_not-not (eqb (length t.masks) (length t.widths)) P.1.1.1.0);
    values_length = eqb→eq _ _ (T_not-not (eqb (length t.values) (length t.widths)) P.1.1.1.1.0);
  },
)

pub slices-of-head : (t : Table) → judged (head_checks t) ≡ done tt → (length t.widths ≤ row_limit) × RowSlices t.widths t.locks t.masks t.values
slices-of-head t e = slices-of-shape t (passed-left (placed 0 (row_shape_faults t)) (placed 0 (word_faults t)) (passed-of-done (head_checks t) tt tt e))

-- ---- with check 10, and without it

rising-ext : (f g : ℕ → List Check) (i n : ℕ) → ((j : ℕ) → f j ≡ g j) → rising f i n ≡ rising g i n
unfolding rising
rising-ext f g i zero e = refl
rising-ext f g i (suc n) e = let h = e i in let t = rising-ext f g (suc i) n e in cc

pub records-closed : (t : Table) → records_with false t ≡ record_checks t
records-closed t =
    rising-ext (record_with false t) (λ i. placed i (record_faults t.widths (record_of t i))) 0 (record_count t)
    (λ i. append-nil (placed i (record_faults t.widths (record_of t i))))
