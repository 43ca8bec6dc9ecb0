-- `lines::cut::count_parts`: what is counted and what is left make up the count. Assumes nothing.
use native.Mathlib.Omega.{arith}
use Rattle.lines.proofs.Scans.{count-here, count-on, count-end}
use Rattle.lines.proofs.cut.count_parts.Goals as goal
use Rattle.lines.proofs.cut.count_parts.Goals.{then-text-i, else-text-i}

pub loop-i-preserved : goal.loop-i-preserved
loop-i-preserved c =
    let i = c.loop-i.i in
    elim c.if-text-i.branch [
      | then-text-i w ↦ omega (arith, count-here c.args.text.now c.args.sep i (omega arith) w.if-text-i.true)
      | else-text-i w ↦ omega (arith, count-on c.args.text.now c.args.sep i (omega arith) w.if-text-i.false)
    ]

pub returns : goal.returns
returns c = omega (arith, count-end c.args.text.now c.args.sep c.loop-i.i (omega arith))
