-- `reset_search::visit_row` meets its contract: a locked row is left alone, else its bits are visited, rising. Assumes nothing.
use native.Mathlib.Omega.{arith}
use Rattle.checks.specs.Model.{lent}
use Rattle.steps.specs.States.{held}
use Rattle.tables.proofs.Demand3.{start_fits}
use Rattle.tables.proofs.FullRuns.{accepted-from}
use Rattle.reset_search.proofs.Passes.{trial-ready, bit-start, bit-next, bit-end}
use Rattle.reset_search.proofs.visit_row.Goals as goal

pub bounds-lock-i : goal.bounds-lock-i
bounds-lock-i c = omega (arith, c.requires.0.accepted.table.locks_length, c.requires.1)

pub loop-k-init : goal.loop-k-init
loop-k-init c =
    (c.requires.0.trial_rows, bit-start (lent c.args.width.now c.args.lock.now c.args.mask.now c.args.value.now c.args.words.now) c.args.c c.args.i (omega arith) (start_fits (lent c.args.width.now c.args.lock.now c.args.mask.now c.args.value.now c.args.words.now) c.requires.0.accepted.table))

pub visit-requires : goal.visit-requires
visit-requires c =
    let l = c.loop-k in
    let h = c.loop-k-test.true in (
      trial-ready (lent c.args.width.now c.args.lock.now c.args.mask.now c.args.value.now c.args.words.now) c.args.c _ _ c.requires.0 (held l.mask l.value) l.invariant.1.fits _ _ l.invariant.0,
      record { row_in = c.requires.1; at_in = omega arith },
    )

pub loop-k-preserved : goal.loop-k-preserved
loop-k-preserved c =
    let l = c.loop-k in
    let h = c.loop-k-test.true in
    let rows = held l.mask l.value in (
      record { masks_length = omega (arith, l.invariant.0.masks_length); values_length = omega (arith, l.invariant.0.values_length) },
      bit-next (lent c.args.width.now c.args.lock.now c.args.mask.now c.args.value.now c.args.words.now) c.args.c c.args.i l.k rows _ (record { row_in = c.requires.1; at_in = omega arith }) l.invariant.1
          (c.visit.ensures c.args.lock.now (accepted-from (lent c.args.width.now c.args.lock.now c.args.mask.now c.args.value.now c.args.words.now) c.requires.0.accepted rows l.invariant.1.fits)),
    )

pub returns : goal.returns
returns c =
    let l = c.loop-k in
    bit-end (lent c.args.width.now c.args.lock.now c.args.mask.now c.args.value.now c.args.words.now) c.args.c c.args.i l.k (held l.mask l.value) (omega (arith, c.loop-k-test.false)) l.invariant.1
