-- The invariant of `pruning::passes::keep_back`: the records from i on have been visited, and those of them that stay stand at the end.
use Rattle.pruning.proofs.BackTurns.{Back}
use Rattle.pruning.proofs.passes.keep_back.Given as goal

abbrev pub invariant-loop-i : goal.invariant-loop-i
invariant-loop-i l = Back l.initial.words l.initial.need l.words l.need l.i l.first
