-- `table_checks::check_count` meets its contract: checks 1 and 2, the rows, then 7 for the row named. Assumes nothing.
use mathlib.Core.Path.{sym, ap, ◌∙◌}
use mathlib.Core.List.{◌++◌}
use Rattle.checks.specs.Check.{placed}
use Rattle.checks.specs.Checks.{row_shape_faults, row_checks, count_checks, row_named_faults}
use Rattle.checks.specs.Model.{in_table, verdict_model}
use Rattle.checks.proofs.Verdicts.{passed-of-done}
use Rattle.checks.proofs.VerdictParts.{exit, goes_on, stops}
use Rattle.table_checks.proofs.HeadBody.{slices-of-shape}
use Rattle.table_checks.proofs.check_count.Goals as goal

pub returns-in_err-check_shape : goal.returns-in_err-check_shape
unfolding count_checks
returns-in_err-check_shape c =
    let t = in_table c.args.t in
    ap verdict_model (exit _ _ c.from_residual.ensures.1)
    ∙ sym (stops c.check_shape.result (placed 0 (row_shape_faults t)) (row_checks t ++ (placed c.args.row (row_named_faults t c.args.row))) c.check_shape.ensures _ c.in_err-check_shape.was)

pub check_rows-requires : goal.check_rows-requires
check_rows-requires c =
    let t = in_table c.args.t in
    (slices-of-shape t (passed-of-done (placed 0 (row_shape_faults t)) tt tt (sym c.check_shape.ensures ∙ ap verdict_model c.in_ok-check_shape.was))).1

pub returns-in_err-check_rows : goal.returns-in_err-check_rows
unfolding count_checks
returns-in_err-check_rows c =
    let t = in_table c.args.t in
    ap verdict_model (exit _ _ c.from_residual-in_err-check_rows.ensures.1)
    ∙ sym (goes_on c.check_shape.result (placed 0 (row_shape_faults t)) (row_checks t ++ (placed c.args.row (row_named_faults t c.args.row))) c.check_shape.ensures c.in_ok-check_shape.was ∙ stops c.check_rows.result (row_checks t) (placed c.args.row (row_named_faults t c.args.row)) c.check_rows.ensures _ c.in_err-check_rows.was)

pub returns : goal.returns
unfolding count_checks
returns c =
    let t = in_table c.args.t in
    c.check_row_named.ensures ∙ sym (goes_on c.check_shape.result (placed 0 (row_shape_faults t)) (row_checks t ++ (placed c.args.row (row_named_faults t c.args.row))) c.check_shape.ensures c.in_ok-check_shape.was ∙ goes_on c.check_rows.result (row_checks t) (placed c.args.row (row_named_faults t c.args.row)) c.check_rows.ensures c.in_ok-check_rows.was)
