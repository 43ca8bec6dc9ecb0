-- `pruning::check_prune` meets its contract: run's checks, then 21. Assumes nothing.
use mathlib.Core.Path.{sym, ap, ◌∙◌}
use lib.ListN.{length}
use Rattle.checks.specs.Check.{placed}
use Rattle.checks.specs.Table.{record_count}
use Rattle.checks.specs.Checks.{run_checks}
use Rattle.checks.specs.Model.{in_table, verdict_model}
use Rattle.checks.proofs.VerdictParts.{exit, goes_on, stops}
use Rattle.needs.specs.Prune.{mark_faults, prune_checks}
use Rattle.pruning.proofs.check_prune.Goals as goal

pub returns-in_err-check_run : goal.returns-in_err-check_run
unfolding prune_checks
returns-in_err-check_run c =
    let a = c.args in
    let t = in_table a.t in
    ap verdict_model (exit _ _ c.from_residual.ensures.1)
    ∙ sym (stops c.check_run.result (run_checks t 0 (record_count t)) (placed 0 (mark_faults (length a.t.width.now) a.marks.now)) c.check_run.ensures _ c.in_err-check_run.was)

pub returns : goal.returns
unfolding prune_checks
returns c =
    let a = c.args in
    let t = in_table a.t in
    c.check_marks.ensures
    ∙ sym (goes_on c.check_run.result (run_checks t 0 (record_count t)) (placed 0 (mark_faults (length a.t.width.now) a.marks.now)) c.check_run.ensures c.in_ok-check_run.was)
