-- `reset_search::pass` meets its contract: row by row. Assumes nothing.
use Rattle.checks.specs.Model.{lent}
use Rattle.steps.specs.States.{held}
use Rattle.steps.specs.Encoding.{OwnRows}
use Rattle.reset_search.proofs.Passes.{AtRow}
use Rattle.reset_search.proofs.pass.Given as goal

abbrev pub invariant-loop-i : goal.invariant-loop-i
invariant-loop-i l = OwnRows l.width l.tmask l.tvalue × AtRow (lent l.width l.lock l.initial.mask l.initial.value l.words) l.c l.i (held l.mask l.value)
