-- `lines::cut::part`: from the part's start up to the next separator. Assumes nothing.
use native.Mathlib.Omega.{arith}
use Rattle.lines.proofs.Scans.{part-zero, part-here}
use Rattle.lines.proofs.cut.part.Goals as goal

pub returns-then-n-eq0 : goal.returns-then-n-eq0
returns-then-n-eq0 c = part-zero _ _ _ _ _ c.if-n-eq0.true

pub returns : goal.returns
returns c =
    let text = c.args.text.now in
    part-here c.args.text.ref_ptr.0 c.args.text.ref_ptr.1 text c.args.sep c.args.n c.if-n-eq0.false c.start_of-start.result c.end_of-end.result _
    c.start_of-start.ensures.0 c.end_of-end.ensures.0 (omega arith)
