-- `clocks::check_settle` meets its contract: run's checks, then 20. Assumes nothing.
use mathlib.Core.Path.{sym, ap, ◌∙◌}
use Rattle.checks.specs.Table.{record_count}
use Rattle.checks.specs.Checks.{run_checks}
use Rattle.checks.specs.Model.{in_table, verdict_model}
use Rattle.checks.proofs.Verdicts.{passed-of-done}
use Rattle.checks.proofs.VerdictParts.{exit, goes_on, stops}
use Rattle.checks.proofs.Accepts.{accepted-of-passed}
use Rattle.rounds.specs.Settle.{pair_checks, settle_checks}
use Rattle.clocks.proofs.check_settle.Goals as goal

pub returns-in_err-check_run : goal.returns-in_err-check_run
unfolding settle_checks
returns-in_err-check_run c =
    ap verdict_model (exit _ _ c.from_residual.ensures.1) ∙ sym (stops c.check_run.result (run_checks (in_table c.args.t) 0 (record_count (in_table c.args.t))) (pair_checks (in_table c.args.t) c.args.states.now c.args.nexts.now) c.check_run.ensures _ c.in_err-check_run.was)

pub check_pairs-requires : goal.check_pairs-requires
check_pairs-requires c =
    let A = accepted-of-passed (in_table c.args.t) 0 (record_count (in_table c.args.t)) (passed-of-done (run_checks (in_table c.args.t) 0 (record_count (in_table c.args.t))) tt tt (sym c.check_run.ensures ∙ ap verdict_model c.in_ok-check_run.was)) in
    (A.table.locks_length, λ k h. (A.table.record_passed k h).kind_known)

pub returns : goal.returns
unfolding settle_checks
returns c =
    c.check_pairs.ensures ∙ sym (goes_on c.check_run.result (run_checks (in_table c.args.t) 0 (record_count (in_table c.args.t))) (pair_checks (in_table c.args.t) c.args.states.now c.args.nexts.now) c.check_run.ensures c.in_ok-check_run.was)
