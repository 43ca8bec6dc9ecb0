-- `checks::rows::check_rows` meets its contract. The invariant: the verdict on all rows is that on the rows from i on. Assumes nothing.
use mathlib.Core.Path.{◌≡◌}
use mathlib.Core.List.{List}
use Prim.Native.Nat.{ℕ, ◌≤◌}
use lib.ListN.{length}
use Rattle.checks.specs.declared.table.Table.{Table as TableLent}
use Rattle.checks.specs.Check.{Check, placed}
use Rattle.checks.specs.Checks.{row_faults_at, row_checks}
use Rattle.checks.specs.Model.{in_table, judged}
use Rattle.checks.proofs.VerdictParts.{rest}
use Rattle.checks.proofs.rows.check_rows.Given as goal

abbrev faults : TableLent → ℕ → List Check
faults t i = placed i (row_faults_at (in_table t) i)

abbrev pub invariant-loop-i : goal.invariant-loop-i
invariant-loop-i l = (l.i ≤ length l.t.width.now)
    × (judged (row_checks (in_table l.t)) ≡ rest (faults l.t) (length l.t.width.now) l.i)
