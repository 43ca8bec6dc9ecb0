-- `vector_calls::inputs::check_range` meets its contract: 4 of the width, then 5, then 17. Assumes nothing.
use mathlib.Core.Path.{sym, ap, ◌∙◌}
use mathlib.Core.List.{◌++◌}
use Rattle.checks.specs.Check.{placed}
use Rattle.checks.specs.Checks.{width_faults, vector_faults}
use Rattle.checks.specs.Model.{verdict_model}
use Rattle.checks.proofs.RowChecks.{width-of-clear}
use Rattle.checks.proofs.VerdictParts.{exit, goes_on, stops}
use Rattle.vector_calls.specs.Ranges.{end_faults}
use Rattle.vector_calls.proofs.inputs.check_range.Goals as goal

pub returns-in_err-check_width : goal.returns-in_err-check_width
returns-in_err-check_width c =
    ap verdict_model (exit _ _ c.from_residual.ensures.1) ∙ sym (stops c.check_width.result (placed 0 (width_faults c.args.width)) ((placed 0 (vector_faults c.args.width c.args.mask c.args.value)) ++ (placed 0 (end_faults c.args.width c.args.low c.args.high))) c.check_width.ensures _ c.in_err-check_width.was)

pub returns : goal.returns
returns c =
    c.first_refusal.ensures (placed 0 (vector_faults c.args.width c.args.mask c.args.value)) (placed 0 (end_faults c.args.width c.args.low c.args.high)) c.check_vector-vector.ensures c.check_ends-ends.ensures
    ∙ sym (goes_on c.check_width.result (placed 0 (width_faults c.args.width)) ((placed 0 (vector_faults c.args.width c.args.mask c.args.value)) ++ (placed 0 (end_faults c.args.width c.args.low c.args.high))) c.check_width.ensures c.in_ok-check_width.was)

pub check_vector-vector-requires : goal.check_vector-vector-requires
check_vector-vector-requires c = width-of-clear c.args.width 0 c.check_width.result c.check_width.ensures c.in_ok-check_width.was

pub check_ends-ends-requires : goal.check_ends-ends-requires
check_ends-ends-requires c = width-of-clear c.args.width 0 c.check_width.result c.check_width.ensures c.in_ok-check_width.was
