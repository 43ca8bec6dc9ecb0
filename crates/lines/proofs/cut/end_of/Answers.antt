-- `lines::cut::end_of`: at each turn i, and what is left to pass from i, make up the answer. Assumes nothing.
use native.Mathlib.Omega.{arith}
use Rattle.lines.proofs.Scans.{before-stop, before_on, before-end}
use Rattle.lines.proofs.cut.end_of.Goals as goal

pub returns-then-text-i : goal.returns-then-text-i
returns-then-text-i c =
    omega (arith, before-stop c.args.text.now c.args.sep c.loop-i.i (omega arith) c.if-text-i.true)

pub loop-i-preserved : goal.loop-i-preserved
loop-i-preserved c =
    omega (arith, before_on c.args.text.now c.args.sep c.loop-i.i (omega arith) c.if-text-i.false)

pub returns : goal.returns
returns c = omega (arith, before-end c.args.text.now c.args.sep c.loop-i.i (omega arith))
