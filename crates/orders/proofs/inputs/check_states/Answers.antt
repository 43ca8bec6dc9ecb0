-- `orders::inputs::check_states` meets its contract: 1 and 2, then 4 and 5 of the rows. Assumes nothing.
use mathlib.Core.Path.{sym, ap, ◌∙◌}
use Rattle.checks.specs.Check.{placed}
use Rattle.checks.specs.Model.{verdict_model}
use Rattle.checks.proofs.Verdicts.{passed-of-done}
use Rattle.checks.proofs.VerdictParts.{exit, goes_on, stops}
use Rattle.steps.specs.States.{held}
use Rattle.orders.specs.Order.{compare_shape_faults, compare_row_checks, compare_checks}
use Rattle.orders.proofs.Orders.{own-rows}
use Rattle.orders.proofs.inputs.check_states.Goals as goal

pub returns-in_err-check_lengths : goal.returns-in_err-check_lengths
unfolding compare_checks
returns-in_err-check_lengths c =
    ap verdict_model (exit _ _ c.from_residual.ensures.1) ∙ sym (stops c.check_lengths.result (placed 0 (compare_shape_faults c.args.width.now (held c.args.ma.now c.args.va.now) (held c.args.mb.now c.args.vb.now))) (compare_row_checks c.args.width.now (held c.args.ma.now c.args.va.now) (held c.args.mb.now c.args.vb.now)) c.check_lengths.ensures _ c.in_err-check_lengths.was)

pub check_both_rows-requires : goal.check_both_rows-requires
check_both_rows-requires c =
    own-rows c.args.width.now (held c.args.ma.now c.args.va.now) (held c.args.mb.now c.args.vb.now) (passed-of-done (placed 0 (compare_shape_faults c.args.width.now (held c.args.ma.now c.args.va.now) (held c.args.mb.now c.args.vb.now))) tt tt (sym c.check_lengths.ensures ∙ ap verdict_model c.in_ok-check_lengths.was))

pub returns : goal.returns
unfolding compare_checks
returns c =
    c.check_both_rows.ensures ∙ sym (goes_on c.check_lengths.result (placed 0 (compare_shape_faults c.args.width.now (held c.args.ma.now c.args.va.now) (held c.args.mb.now c.args.vb.now))) (compare_row_checks c.args.width.now (held c.args.ma.now c.args.va.now) (held c.args.mb.now c.args.vb.now)) c.check_lengths.ensures c.in_ok-check_lengths.was)
