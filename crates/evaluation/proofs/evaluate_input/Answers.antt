-- `evaluation::evaluate_input` meets its contract: what is held of an input prints what the input prints. Assumes nothing.
use mathlib.Core.Path.{sym}
use native.Mathlib.Omega.{arith}
use lib.Seq.{length-take-le}
use Rattle.evaluation.proofs.Printed.{printed-as}
use Rattle.evaluation.proofs.Inputs.{held-prints}
use Rattle.evaluation.proofs.evaluate_input.Goals as goal

pub slice_bounds-evaluate_text-end : goal.slice_bounds-evaluate_text-end
slice_bounds-evaluate_text-end c = sym (length-take-le _ c.args.text.now (omega arith))

pub returns : goal.returns
returns c input e =
    printed-as (held-prints c.args.text.now c.args.n input c.requires.text_fits e) c.evaluate_text.ensures
