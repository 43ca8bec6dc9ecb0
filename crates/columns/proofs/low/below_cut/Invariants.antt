-- `below_cut` meets its contract. The loop's invariant: below any place stand no more unknown bits than those that are left there and those that were taken.
-- Assumes nothing.
use Rattle.std.proofs.Common.{ℕ, ◌+◌, ◌^◌, ◌<◌, ◌≤◌}
use lib.Count.{ones_in}
use Rattle.columns.specs.Choices.{low_exhaustive_limit}
use Rattle.columns.proofs.low.below_cut.Given as goal

abbrev pub invariant-loop-taken : goal.invariant-loop-taken
invariant-loop-taken l = (l.a < 2 ^ 32) × (l.b < 2 ^ 32) × (l.taken ≤ low_exhaustive_limit) × ((c : ℕ) → ones_in c l.ma + ones_in c l.mb ≤ ones_in c l.a + ones_in c l.b + l.taken)
