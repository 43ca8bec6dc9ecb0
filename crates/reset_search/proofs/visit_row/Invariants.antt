-- `reset_search::visit_row` meets its contract: a locked row is left alone, else its bits are visited, rising. Assumes nothing.
use Rattle.checks.specs.Model.{lent}
use Rattle.steps.specs.States.{held}
use Rattle.steps.specs.Encoding.{OwnRows}
use Rattle.reset_search.proofs.Passes.{AtBit}
use Rattle.reset_search.proofs.visit_row.Given as goal

abbrev pub invariant-loop-k : goal.invariant-loop-k
invariant-loop-k l = OwnRows l.width l.tmask l.tvalue × AtBit (lent l.width l.lock l.initial.mask l.initial.value l.words) l.c l.i l.k (held l.mask l.value)
