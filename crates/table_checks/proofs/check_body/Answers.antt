-- `table_checks::check_body` meets its contract: the rows, then the records. Assumes nothing.
use mathlib.Core.Path.{sym, ap, ◌∙◌}
use Rattle.checks.specs.Checks.{row_checks}
use Rattle.checks.specs.Model.{in_table, verdict_model}
use Rattle.checks.specs.Encoding.{records_with}
use Rattle.checks.proofs.VerdictParts.{exit, goes_on, stops}
use Rattle.table_checks.proofs.check_body.Goals as goal

pub returns-in_err-check_rows : goal.returns-in_err-check_rows
returns-in_err-check_rows c =
    let t = in_table c.args.t in
    ap verdict_model (exit _ _ c.from_residual.ensures.1)
    ∙ sym (stops c.check_rows.result (row_checks t) (records_with c.args.locked t) c.check_rows.ensures _ c.in_err-check_rows.was)

pub returns : goal.returns
returns c =
    let t = in_table c.args.t in
    c.check_records.ensures
    ∙ sym (goes_on c.check_rows.result (row_checks t) (records_with c.args.locked t) c.check_rows.ensures c.in_ok-check_rows.was)
