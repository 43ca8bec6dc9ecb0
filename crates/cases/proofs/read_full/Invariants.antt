-- `cases::read_full` meets its contract: count lies within the buffer. Assumes nothing.
use Rattle.std.proofs.Common.{length, ◌≤◌}
use Rattle.cases.proofs.read_full.Given as goal

abbrev pub invariant-loop : goal.invariant-loop
invariant-loop g l = l.count ≤ length l.buffer
