-- What count's checks, passed, give. Assumes nothing.
use mathlib.Core.Path.{◌≡◌}
use mathlib.Core.List.{List, ◌++◌}
use Prim.Native.Nat.{ℕ, ◌≤◌, ◌<◌}
use lib.Dec.{nleb→lt}
use lib.ListN.{length}
use Rattle.checks.specs.Check.{done, Check, placed, Passed}
use Rattle.checks.specs.Limits.{row_limit}
use Rattle.checks.specs.Table.{Table}
use Rattle.checks.specs.Checks.{row_shape_faults, row_faults_at, row_checks, row_named_faults, count_checks}
use Rattle.checks.specs.Accepted.{RowPassed}
use Rattle.checks.specs.Model.{judged}
use Rattle.checks.specs.Encoding.{RowSlices}
use Rattle.checks.proofs.Verdicts.{passed-left, passed-right, rising-elim, passed-of-done}
use Rattle.checks.proofs.RowChecks.{row-of-passed}
use Rattle.table_checks.proofs.HeadBody.{slices-of-shape}

module _ (t : Table) (i : ℕ) (e : judged (count_checks t i) ≡ done tt) where
  abbrev shape : List Check
  shape = placed 0 (row_shape_faults t)

  abbrev seven : List Check
  seven = placed i (row_named_faults t i)

  passed : Passed (shape ++ (row_checks t ++ seven))
  unfolding count_checks
  passed = passed-of-done (shape ++ (row_checks t ++ seven)) tt tt e

  pub row_in : i < length t.widths
  row_in = nleb→lt (length t.widths) i (passed-right (row_checks t) seven (passed-right shape (row_checks t ++ seven) passed)).0

  pub row-slices : (length t.widths ≤ row_limit) × RowSlices t.widths t.locks t.masks t.values
  row-slices = slices-of-shape t (passed-left shape (row_checks t ++ seven) passed)

  pub row-good : RowPassed t i
  row-good =
      row-of-passed t i i
      (rising-elim (λ j. placed j (row_faults_at t j)) (length t.widths) (passed-left (row_checks t) seven (passed-right shape (row_checks t ++ seven) passed)) i row_in)
