-- `rounds::rows_still` meets its contract. The invariant: no pair before i changes its state row. Assumes nothing.
use mathlib.Core.Path.{◌≡◌, sym, ◌∙◌}
use mathlib.Core.Bool.{true}
use native.Mathlib.Omega.{arith}
use Rattle.bits.proofs.Below.{below_next}
use Rattle.steps.specs.States.{held}
use Rattle.rounds.proofs.PairTurns.{stays, all_stay, one-changes}
use Rattle.rounds.proofs.rows_still.Goals as goal

pub loop-i-init : goal.loop-i-init
loop-i-init c = (c.requires.pairs.even, omega arith, λ widths j h. absurd (omega arith))

pub row_still-requires : goal.row_still-requires
row_still-requires c =
    let i = c.loop-i.i in
    let R = c.requires in
    let m = R.pairs.states_in i c.loop-i-test.true in
    let n = R.pairs.nexts_in i c.loop-i-test.true in
    (omega arith, omega (arith, R.run_values), omega (arith, R.start_masks), omega (arith, R.start_values))

pub returns-then-not-row_still : goal.returns-then-not-row_still
returns-then-not-row_still c widths =
    sym (one-changes widths c.args.states.now c.args.nexts.now (held c.args.mask.now c.args.value.now) (held c.args.smask.now c.args.svalue.now) c.loop-i.i c.loop-i-test.true (sym (c.row_still.ensures widths) ∙ c.if-not-row_still.true))

pub loop-i-preserved : goal.loop-i-preserved
loop-i-preserved c = (
  c.loop-i.invariant.0,
  omega arith,
  (λ widths. below_next (λ j. stays widths c.args.states.now c.args.nexts.now (held c.args.mask.now c.args.value.now) (held c.args.smask.now c.args.svalue.now) j ≡ true) c.loop-i.i (c.loop-i.invariant.2 widths) (sym (c.row_still.ensures widths) ∙ c.if-not-row_still.false)),
)

pub returns : goal.returns
returns c widths =
    sym (all_stay widths c.args.states.now c.args.nexts.now (held c.args.mask.now c.args.value.now) (held c.args.smask.now c.args.svalue.now) (λ j h. c.loop-i.invariant.2 widths j (omega (arith, c.loop-i-test.false))))
