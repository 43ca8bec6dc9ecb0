-- `checks::rows::check_two_vectors` meets its contract: 4 of the width, then 5 of either vector. Assumes nothing.
use mathlib.Core.Path.{sym, ap, ◌∙◌}
use mathlib.Core.List.{◌++◌}
use Rattle.checks.specs.Check.{placed}
use Rattle.checks.specs.Checks.{width_faults, vector_faults}
use Rattle.checks.specs.Model.{verdict_model}
use Rattle.checks.proofs.RowChecks.{width-of-clear}
use Rattle.checks.proofs.VerdictParts.{exit, goes_on, stops}
use Rattle.checks.proofs.rows.check_two_vectors.Goals as goal

pub returns-in_err-check_width : goal.returns-in_err-check_width
returns-in_err-check_width c =
    ap verdict_model (exit _ _ c.from_residual.ensures.1) ∙ sym (stops c.check_width.result (placed c.args.i (width_faults c.args.w)) ((placed c.args.i (vector_faults c.args.w c.args.ma c.args.va)) ++ (placed c.args.i (vector_faults c.args.w c.args.mb c.args.vb))) c.check_width.ensures _ c.in_err-check_width.was)

pub check_vector-first-requires : goal.check_vector-first-requires
check_vector-first-requires c = (width-of-clear c.args.w c.args.i c.check_width.result c.check_width.ensures c.in_ok-check_width.was)

pub check_vector-second-requires : goal.check_vector-second-requires
check_vector-second-requires c = (width-of-clear c.args.w c.args.i c.check_width.result c.check_width.ensures c.in_ok-check_width.was)

pub returns : goal.returns
returns c =
    c.first_refusal.ensures (placed c.args.i (vector_faults c.args.w c.args.ma c.args.va)) (placed c.args.i (vector_faults c.args.w c.args.mb c.args.vb)) c.check_vector-first.ensures c.check_vector-second.ensures
    ∙ sym (goes_on c.check_width.result (placed c.args.i (width_faults c.args.w)) ((placed c.args.i (vector_faults c.args.w c.args.ma c.args.va)) ++ (placed c.args.i (vector_faults c.args.w c.args.mb c.args.vb))) c.check_width.ensures c.in_ok-check_width.was)
