-- `resets::check_naming` meets its contract: run's checks, 7 of the row named, then 15 of the bit. Assumes nothing.
use mathlib.Core.Path.{◌≡◌, sym, ap, ◌∙◌}
use mathlib.Core.List.{◌++◌}
use lib.Dec.{nleb→lt}
use lib.ListN.{length}
use Rattle.operations.specs.Record.{width_at}
use Rattle.checks.specs.Check.{placed}
use Rattle.checks.specs.Table.{record_count}
use Rattle.checks.specs.Checks.{bit_faults, row_named_faults, run_checks}
use Rattle.checks.specs.Model.{in_table, verdict_model, judged}
use Rattle.checks.proofs.Verdicts.{passed-of-done}
use Rattle.checks.proofs.VerdictParts.{exit, goes_on, stops}
use Rattle.conclusions.specs.Reset.{naming_checks}
use Rattle.resets.proofs.check_naming.Goals as goal
use Rattle.resets.proofs.check_naming.Goals.{In_ok-check_run}

pub returns-in_err-check_run : goal.returns-in_err-check_run
unfolding naming_checks
returns-in_err-check_run c =
    ap verdict_model (exit _ _ c.from_residual.ensures.1)
    ∙ sym (stops c.check_run.result (run_checks (in_table c.args.t) 0 (record_count (in_table c.args.t))) ((placed c.args.row (row_named_faults (in_table c.args.t) c.args.row)) ++ (placed 0 (bit_faults (width_at c.args.t.width.now c.args.row) c.args.bit))) c.check_run.ensures _ c.in_err-check_run.was)

past-run : (c : goal.In_ok-check_run) → judged (naming_checks (in_table c.args.t) c.args.row c.args.bit) ≡ judged ((placed c.args.row (row_named_faults (in_table c.args.t) c.args.row)) ++ (placed 0 (bit_faults (width_at c.args.t.width.now c.args.row) c.args.bit)))
unfolding naming_checks
past-run c =
    goes_on c.check_run.result (run_checks (in_table c.args.t) 0 (record_count (in_table c.args.t))) ((placed c.args.row (row_named_faults (in_table c.args.t) c.args.row)) ++ (placed 0 (bit_faults (width_at c.args.t.width.now c.args.row) c.args.bit))) c.check_run.ensures c.in_ok-check_run.was

pub returns-in_err-check_row_named : goal.returns-in_err-check_row_named
returns-in_err-check_row_named c =
    ap verdict_model (exit _ _ c.from_residual-in_err-check_row_named.ensures.1)
    ∙ sym (past-run (goal.at.returns-in_err-check_row_named c).In_ok-check_run ∙ stops c.check_row_named.result (placed c.args.row (row_named_faults (in_table c.args.t) c.args.row)) (placed 0 (bit_faults (width_at c.args.t.width.now c.args.row) c.args.bit)) c.check_row_named.ensures _ c.in_err-check_row_named.was)

pub bounds-t-row : goal.bounds-t-row
bounds-t-row c =
    nleb→lt (length c.args.t.width.now) c.args.row (passed-of-done (placed c.args.row (row_named_faults (in_table c.args.t) c.args.row)) tt tt (sym c.check_row_named.ensures ∙ ap verdict_model c.in_ok-check_row_named.was)).0

pub returns : goal.returns
returns c =
    c.check_bit.ensures
    ∙ sym (past-run (goal.at.returns c).In_ok-check_run ∙ goes_on c.check_row_named.result (placed c.args.row (row_named_faults (in_table c.args.t) c.args.row)) (placed 0 (bit_faults (width_at c.args.t.width.now c.args.row) c.args.bit)) c.check_row_named.ensures c.in_ok-check_row_named.was)
