-- The invariant of `pruning::check_marks`: there are as many marks as rows, and none before the one looked at is over 1.
use mathlib.Core.Path.{◌≡◌}
use mathlib.Core.Bool.{false}
use Prim.Native.Nat.{ℕ, ◌≤◌, ◌<◌}
use lib.Dec.{ltb}
use lib.ListN.{length, get_or}
use Rattle.pruning.proofs.check_marks.Given as goal

abbrev pub invariant-loop-mark : goal.invariant-loop-mark
invariant-loop-mark l = (length l.marks ≡ l.rows) × (l.mark-index ≤ length l.marks) × ((k : ℕ) → k < l.mark-index → ltb 1 (get_or l.marks k 0) ≡ false)
