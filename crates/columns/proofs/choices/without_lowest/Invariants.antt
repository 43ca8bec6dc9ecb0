-- `without_lowest` meets its contract. The loop's invariant: as many ones are left as were not cleared. Assumes nothing.
use Rattle.std.proofs.Common.{◌≡◌, ◌-◌, ◌≤◌}
use lib.Count.{ones_in}
use Rattle.columns.specs.Choices.{exhaustive_limit}
use Rattle.columns.proofs.choices.without_lowest.Given as goal

abbrev pub invariant-loop-cleared : goal.invariant-loop-cleared
invariant-loop-cleared l = (l.cleared ≤ exhaustive_limit) × (ones_in 64 l.rest ≡ ones_in 64 l.x - l.cleared)
