-- `rounds::widen_rows` meets its contract. The invariant: the pairs from i on, widened from the rows at hand, give what all pairs give. Assumes nothing.
use mathlib.Core.Path.{refl, ◌∙◌}
use native.Mathlib.Omega.{arith}
use Rattle.steps.specs.States.{held}
use Rattle.rounds.proofs.PairTurns.{pairs_start, pairs-step, pairs_end, put-lengths}
use Rattle.rounds.proofs.widen_rows.Goals as goal

pub loop-i-init : goal.loop-i-init
loop-i-init c = (refl, refl, c.requires.pairs.even, omega arith, λ widths. pairs_start widths _ _ _ _)

pub widen_row-requires : goal.widen_row-requires
widen_row-requires c =
    let R = c.requires in
    let m = R.pairs.states_in c.loop-i.i c.loop-i-test.true in
    let n = R.pairs.nexts_in c.loop-i.i c.loop-i-test.true in
    (omega arith, omega (arith, R.run_values), omega (arith, c.loop-i.invariant.0, R.start_masks), omega (arith, c.loop-i.invariant.1, R.start_values))

pub loop-i-preserved : goal.loop-i-preserved
loop-i-preserved c =
    let v = c.loop-i.invariant in (
      (put-lengths (held c.loop-i.smask c.loop-i.svalue) _ _ _ _ (c.widen_row.ensures c.args.states.now)).0 ∙ v.0,
      (put-lengths (held c.loop-i.smask c.loop-i.svalue) _ _ _ _ (c.widen_row.ensures c.args.states.now)).1 ∙ v.1,
      v.2,
      omega arith,
      (λ widths. pairs-step widths _ _ _ _ _ c.requires.pairs c.loop-i.i _ _ c.loop-i-test.true (v.4 widths) (c.widen_row.ensures widths)),
    )

pub returns : goal.returns
returns c widths = pairs_end widths _ _ _ _ c.loop-i.i _ c.loop-i-test.false (c.loop-i.invariant.4 widths)
