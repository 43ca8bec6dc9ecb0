-- `rounds::widen_rows` meets its contract. The invariant: the pairs from i on, widened from the rows at hand, give what all pairs give. Assumes nothing.
use mathlib.Core.Path.{◌≡◌}
use mathlib.Core.List.{List}
use Prim.Native.Nat.{ℕ, ◌≤◌}
use lib.ListN.{length}
use Rattle.steps.specs.States.{held}
use Rattle.rounds.proofs.PairTurns.{PairsFrom}
use Rattle.rounds.proofs.widen_rows.Given as goal

abbrev pub invariant-loop-i : goal.invariant-loop-i
invariant-loop-i l = (length l.smask ≡ length l.initial.smask) × (length l.svalue ≡ length l.initial.svalue) × (length l.nexts ≡ length l.states) × (l.i ≤ length l.states)
    × ((widths : List ℕ) → PairsFrom widths l.states l.nexts (held l.mask l.value) (held l.initial.smask l.initial.svalue) l.i (held l.smask l.svalue))
