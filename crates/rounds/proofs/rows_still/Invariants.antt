-- `rounds::rows_still` meets its contract. The invariant: no pair before i changes its state row. Assumes nothing.
use mathlib.Core.Path.{◌≡◌}
use mathlib.Core.Bool.{true}
use mathlib.Core.List.{List}
use Prim.Native.Nat.{ℕ, ◌≤◌, ◌<◌}
use lib.ListN.{length}
use Rattle.steps.specs.States.{held}
use Rattle.rounds.proofs.PairTurns.{stays}
use Rattle.rounds.proofs.rows_still.Given as goal

abbrev pub invariant-loop-i : goal.invariant-loop-i
invariant-loop-i l = (length l.nexts ≡ length l.states) × (l.i ≤ length l.states) × ((widths : List ℕ) (j : ℕ) → j < l.i → stays widths l.states l.nexts (held l.mask l.value) (held l.smask l.svalue) j ≡ true)
