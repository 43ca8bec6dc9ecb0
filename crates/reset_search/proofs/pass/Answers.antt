-- `reset_search::pass` meets its contract: row by row. Assumes nothing.
use native.Mathlib.Omega.{arith}
use Rattle.checks.specs.Model.{lent}
use Rattle.steps.specs.States.{held}
use Rattle.tables.proofs.Demand3.{start_fits}
use Rattle.reset_search.proofs.Passes.{pass-ready, row-start, row_next, row-end}
use Rattle.reset_search.proofs.pass.Goals as goal

pub loop-i-init : goal.loop-i-init
loop-i-init c = (c.requires.trial_rows, row-start (lent c.args.width.now c.args.lock.now c.args.mask.now c.args.value.now c.args.words.now) c.args.c (start_fits (lent c.args.width.now c.args.lock.now c.args.mask.now c.args.value.now c.args.words.now) c.requires.accepted.table))

pub visit_row-requires : goal.visit_row-requires
visit_row-requires c =
    let l = c.loop-i in
    (pass-ready (lent c.args.width.now c.args.lock.now c.args.mask.now c.args.value.now c.args.words.now) c.args.c _ _ c.requires (held l.mask l.value) l.invariant.1.fits _ _ l.invariant.0, omega (arith, c.loop-i-test.true))

pub loop-i-preserved : goal.loop-i-preserved
loop-i-preserved c =
    let l = c.loop-i in (
      record { masks_length = omega (arith, l.invariant.0.masks_length); values_length = omega (arith, l.invariant.0.values_length) },
      row_next (lent c.args.width.now c.args.lock.now c.args.mask.now c.args.value.now c.args.words.now) c.args.c l.i (held l.mask l.value) _ c.loop-i-test.true l.invariant.1 c.visit_row.ensures,
    )

pub returns : goal.returns
returns c =
    let l = c.loop-i in
    row-end (lent c.args.width.now c.args.lock.now c.args.mask.now c.args.value.now c.args.words.now) c.args.c l.i (held l.mask l.value) c.loop-i-test.false l.invariant.1
