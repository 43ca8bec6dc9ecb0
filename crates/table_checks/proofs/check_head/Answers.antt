-- `table_checks::check_head` meets its contract: checks 1 and 2, then 3. Assumes nothing.
use mathlib.Core.Path.{sym, ap, ◌∙◌}
use Rattle.checks.specs.Check.{placed}
use Rattle.checks.specs.Checks.{row_shape_faults, word_faults}
use Rattle.checks.specs.Model.{in_table, verdict_model}
use Rattle.checks.proofs.VerdictParts.{exit, goes_on, stops}
use Rattle.table_checks.proofs.check_head.Goals as goal

pub returns-in_err-check_shape : goal.returns-in_err-check_shape
returns-in_err-check_shape c =
    let t = in_table c.args.t in
    ap verdict_model (exit _ _ c.from_residual.ensures.1) ∙ sym (stops c.check_shape.result (placed 0 (row_shape_faults t)) (placed 0 (word_faults t)) c.check_shape.ensures _ c.in_err-check_shape.was)

pub returns : goal.returns
returns c =
    let t = in_table c.args.t in
    c.check_words.ensures ∙ sym (goes_on c.check_shape.result (placed 0 (row_shape_faults t)) (placed 0 (word_faults t)) c.check_shape.ensures c.in_ok-check_shape.was)
