-- `table_checks::check_run` meets its contract: the first checks, the stretch, then rows and records. Assumes nothing.
use mathlib.Core.Path.{sym, ap, ◌∙◌}
use mathlib.Core.Bool.{true}
use mathlib.Core.List.{◌++◌}
use Rattle.checks.specs.Check.{placed}
use Rattle.checks.specs.Checks.{stretch_faults, run_checks}
use Rattle.checks.specs.Model.{in_table, verdict_model}
use Rattle.checks.specs.Encoding.{head_checks, body_checks}
use Rattle.checks.proofs.VerdictParts.{exit, goes_on, stops}
use Rattle.table_checks.proofs.HeadBody.{slices-of-head}
use Rattle.table_checks.proofs.check_run.Goals as goal

pub returns-in_err-check_head : goal.returns-in_err-check_head
unfolding run_checks
returns-in_err-check_head c =
    let t = in_table c.args.t in
    ap verdict_model (exit _ _ c.from_residual.ensures.1)
    ∙ sym (stops c.check_head.result (head_checks t) ((placed 0 (stretch_faults t c.args.first c.args.last)) ++ (body_checks true t)) c.check_head.ensures _ c.in_err-check_head.was)

pub returns-in_err-check_stretch : goal.returns-in_err-check_stretch
unfolding run_checks
returns-in_err-check_stretch c =
    let t = in_table c.args.t in
    ap verdict_model (exit _ _ c.from_residual-in_err-check_stretch.ensures.1)
    ∙ sym (goes_on c.check_head.result (head_checks t) ((placed 0 (stretch_faults t c.args.first c.args.last)) ++ (body_checks true t)) c.check_head.ensures c.in_ok-check_head.was ∙ stops c.check_stretch.result (placed 0 (stretch_faults t c.args.first c.args.last)) (body_checks true t) c.check_stretch.ensures _ c.in_err-check_stretch.was)

pub check_body-requires : goal.check_body-requires
check_body-requires c =
    let t = in_table c.args.t in
    slices-of-head t (sym c.check_head.ensures ∙ ap verdict_model c.in_ok-check_head.was)

pub returns : goal.returns
unfolding run_checks
returns c =
    let t = in_table c.args.t in
    c.check_body.ensures
    ∙ sym (goes_on c.check_head.result (head_checks t) ((placed 0 (stretch_faults t c.args.first c.args.last)) ++ (body_checks true t)) c.check_head.ensures c.in_ok-check_head.was ∙ goes_on c.check_stretch.result (placed 0 (stretch_faults t c.args.first c.args.last)) (body_checks true t) c.check_stretch.ensures c.in_ok-check_stretch.was)
