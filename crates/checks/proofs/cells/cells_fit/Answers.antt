-- `checks::cells::cells_fit` meets its contract: the cells against a load's target, or against a store's data. Assumes nothing.
use mathlib.Core.Path.{sym, ◌∙◌}
use native.Mathlib.Omega.{arith}
use lib.ListN.{length}
use Rattle.operations.proofs.Sound.{load-or-store}
use Rattle.checks.proofs.Naming.{named-facts}
use Rattle.checks.proofs.Memory.{load_row_lem, store-row, load_fits, store-fits}
use Rattle.checks.proofs.cells.cells_fit.Goals as goal

pub bounds-width-t : goal.bounds-width-t
bounds-width-t c = let h = (named-facts (length c.args.width.now) c.args.r c.requires.0).target_in (load_row_lem c.args.r c.if-r-eq-LOAD.true) in omega arith

pub bounds-width-d : goal.bounds-width-d
bounds-width-d c =
    let h = (named-facts (length c.args.width.now) c.args.r c.requires.0).second_in (store-row c.args.r (load-or-store c.args.r.kind (named-facts (length c.args.width.now) c.args.r c.requires.0).known c.requires.1 c.if-r-eq-LOAD.false)) in
    omega arith

pub returns-then-r-eq-LOAD : goal.returns-then-r-eq-LOAD
returns-then-r-eq-LOAD c =
    let a = c.args in
    c.span_fits.ensures ∙ sym (load_fits a.width.now a.r c.if-r-eq-LOAD.true)

pub returns : goal.returns
returns c =
    let a = c.args in
    c.span_fits-2.ensures
    ∙ sym (store-fits a.width.now a.r (load-or-store a.r.kind (named-facts (length c.args.width.now) c.args.r c.requires.0).known c.requires.1 c.if-r-eq-LOAD.false))

pub span_fits-requires : goal.span_fits-requires
span_fits-requires c = (let h = (named-facts (length c.args.width.now) c.args.r c.requires.0).span_in c.requires.1 in omega arith)

pub span_fits-requires-2 : goal.span_fits-requires-2
span_fits-requires-2 c = (let h = (named-facts (length c.args.width.now) c.args.r c.requires.0).span_in c.requires.1 in omega arith)
