-- The invariant of `needs::take_marks`: the marks before i are taken over.
use Rattle.needs.proofs.Taken.{Taken}
use Rattle.needs.proofs.take_marks.Given as goal

abbrev pub invariant-loop-i : goal.invariant-loop-i
invariant-loop-i l = Taken l.marks l.initial.need l.need l.i
