-- `by_every_choice` meets its contract. The loop's invariant: every choice above s was tried. Assumes nothing.
use Rattle.columns.proofs.EveryChoice.{Tried}
use Rattle.columns.proofs.choices.by_every_choice.Given as goal

abbrev pub invariant-loop-s : goal.invariant-loop-s
invariant-loop-s l = Tried l.plain l.va l.vb l.unknown l.found l.s

abbrev pub decreases-loop-s : goal.decreases-loop-s
decreases-loop-s l = l.s
