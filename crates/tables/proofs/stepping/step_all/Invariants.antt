-- `tables::stepping::step_all` meets its contract. The invariant: the rows are those after the first i records. Assumes nothing.
use mathlib.Core.Path.{◌≡◌}
use mathlib.Core.List.{[]}
use Prim.Native.Nat.{◌/◌, ◌≤◌}
use lib.ListN.{length}
use Rattle.operations.specs.Limits.{record_words}
use Rattle.checks.specs.Model.{lent}
use Rattle.steps.specs.Step.{after}
use Rattle.tables.specs.Run.{program_of}
use Rattle.steps.specs.States.{held}
use Rattle.tables.proofs.stepping.step_all.Given as goal

abbrev pub invariant-loop-i : goal.invariant-loop-i
invariant-loop-i l = (length l.mask ≡ length l.initial.mask)
    × (length l.value ≡ length l.initial.value)
    × (l.i ≤ length l.words / record_words)
    × (held l.mask l.value ≡ after (program_of (lent l.width [] [] [] l.words)) 0 l.i (held l.initial.mask l.initial.value))
