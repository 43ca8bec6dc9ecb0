-- `checks::cells::check_cells` meets its contract: a load, or else a store. Assumes nothing.
use mathlib.Core.Path.{sym, ◌∙◌}
use Rattle.operations.proofs.Sound.{load-or-store}
use Rattle.checks.proofs.Memory.{of-load, of-store}
use Rattle.checks.proofs.cells.check_cells.Goals as goal

pub returns-then-r-eq-LOAD : goal.returns-then-r-eq-LOAD
returns-then-r-eq-LOAD c = let a = c.args in c.check_span.ensures ∙ sym (of-load a.n a.r a.i c.if-r-eq-LOAD.true)

pub returns : goal.returns
returns c =
    let a = c.args in
    c.check_span-2.ensures ∙ sym (of-store a.n a.r a.i (load-or-store a.r.kind c.requires.0 c.requires.1 c.if-r-eq-LOAD.false))
