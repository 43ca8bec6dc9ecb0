-- The invariant of `pruning::passes::move_down`: the words before j have moved.
use mathlib.Core.Path.{◌≡◌}
use Prim.Native.Nat.{◌≤◌}
use lib.ListN.{length}
use Rattle.pruning.proofs.MovedWords.{Moved}
use Rattle.pruning.proofs.passes.move_down.Given as goal

abbrev pub invariant-loop-j : goal.invariant-loop-j
invariant-loop-j l = (l.j ≤ length l.initial.words) × (length l.words ≡ length l.initial.words) × Moved l.initial.words l.from l.words l.j
