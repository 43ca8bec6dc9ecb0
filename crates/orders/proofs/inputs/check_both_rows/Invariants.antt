-- `orders::inputs::check_both_rows` meets its contract. The invariant: the verdict on all rows is that on the rows from i on. Assumes nothing.
use mathlib.Core.Path.{◌≡◌}
use mathlib.Core.List.{List}
use Prim.Native.Nat.{ℕ, ◌≤◌}
use lib.ListN.{length}
use Rattle.checks.specs.Check.{Check, placed}
use Rattle.checks.specs.Model.{judged}
use Rattle.checks.proofs.VerdictParts.{rest}
use Rattle.steps.specs.States.{held}
use Rattle.orders.specs.Order.{compare_row_faults, compare_row_checks}
use Rattle.orders.proofs.inputs.check_both_rows.Given as goal

abbrev faults : List ℕ → List ℕ → List ℕ → List ℕ → List ℕ → ℕ → List Check
faults width ma va mb vb i = placed i (compare_row_faults width (held ma va) (held mb vb) i)

abbrev pub invariant-loop-i : goal.invariant-loop-i
invariant-loop-i l = (length l.ma ≡ length l.width) × (length l.va ≡ length l.width) × (length l.mb ≡ length l.width) × (length l.vb ≡ length l.width) × (l.i ≤ length l.width)
    × (judged (compare_row_checks l.width (held l.ma l.va) (held l.mb l.vb)) ≡ rest (faults l.width l.ma l.va l.mb l.vb) (length l.width) l.i)
