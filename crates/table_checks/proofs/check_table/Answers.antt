-- `table_checks::check_table` meets its contract: the first checks, then rows and records. Assumes nothing.
use mathlib.Core.Path.{sym, ap, ◌∙◌}
use mathlib.Core.List.{◌++◌}
use Rattle.checks.specs.Checks.{row_checks, record_checks, size_checks}
use Rattle.checks.specs.Model.{in_table, verdict_model, judged}
use Rattle.checks.specs.Encoding.{head_checks}
use Rattle.checks.proofs.VerdictParts.{exit, goes_on, stops}
use Rattle.table_checks.proofs.HeadBody.{slices-of-head, records-closed}
use Rattle.table_checks.proofs.check_table.Goals as goal

pub returns-in_err-check_head : goal.returns-in_err-check_head
unfolding size_checks
returns-in_err-check_head c =
    let t = in_table c.args.t in
    ap verdict_model (exit _ _ c.from_residual.ensures.1)
    ∙ sym (stops c.check_head.result (head_checks t) (row_checks t ++ record_checks t) c.check_head.ensures _ c.in_err-check_head.was)

pub check_body-requires : goal.check_body-requires
check_body-requires c =
    let t = in_table c.args.t in
    slices-of-head t (sym c.check_head.ensures ∙ ap verdict_model c.in_ok-check_head.was)

pub returns : goal.returns
unfolding size_checks
returns c =
    let t = in_table c.args.t in
    c.check_body.ensures
    ∙ ap (λ cs. judged (row_checks t ++ cs)) (records-closed t)
    ∙ sym (goes_on c.check_head.result (head_checks t) (row_checks t ++ record_checks t) c.check_head.ensures c.in_ok-check_head.was)
