-- `cases::count_outcomes` is safe and ends: no more pairs are counted than were tried. Assumes nothing but what libc and os do.
use Rattle.std.proofs.Common.{◌≤◌}
use Rattle.cases.proofs.count_outcomes.Given as goal

abbrev pub invariant-loop-k : goal.invariant-loop-k
invariant-loop-k l = (l.k ≤ l.count) × (l.differ ≤ l.k) × (l.written ≤ l.k)
