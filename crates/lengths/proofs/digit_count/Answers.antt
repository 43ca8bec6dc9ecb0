-- `lengths::digit_count`: the digits counted, and those of the leading part that is left, are one more than all. Assumes nothing.
use native.Mathlib.Omega.{arith}
use Rattle.grammar.proofs.Decimals.{length-small, length-large}
use Rattle.lengths.proofs.digit_count.Goals as goal

pub loop-leading-preserved : goal.loop-leading-preserved
loop-leading-preserved c = (omega (arith, length-large c.loop-leading.leading c.loop-leading-test.true), omega arith)

pub returns : goal.returns
returns c = omega (arith, length-small c.loop-leading.leading (omega arith))

pub loop-leading-init : goal.loop-leading-init
loop-leading-init c = (omega arith, omega arith)
