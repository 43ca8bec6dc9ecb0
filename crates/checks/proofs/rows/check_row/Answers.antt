-- `checks::rows::check_row` meets its contract: 4 of the width, 4 of the lock, then 5. Assumes nothing.
use mathlib.Core.Path.{sym, ap, ◌∙◌}
use mathlib.Core.List.{◌∷◌}
use borrow.Author.Tests.{lt-ltb, le-ltb}
use Rattle.operations.specs.Faults.{fault}
use Rattle.checks.specs.Check.{placed}
use Rattle.checks.specs.Checks.{lock_over, width_faults, vector_faults}
use Rattle.checks.specs.Model.{verdict_model}
use Rattle.checks.proofs.Verdicts.{hits, skips}
use Rattle.checks.proofs.RowChecks.{width-of-clear}
use Rattle.checks.proofs.VerdictParts.{exit, goes_on, stops}
use Rattle.checks.proofs.rows.check_row.Goals as goal

pub returns-in_err-check_width : goal.returns-in_err-check_width
returns-in_err-check_width c =
    ap verdict_model (exit _ _ c.from_residual.ensures.1) ∙ sym (stops c.check_width.result (placed c.args.i (width_faults c.args.w)) (placed c.args.i (fault (lock_over c.args.l) 4 ∷ vector_faults c.args.w c.args.m c.args.v)) c.check_width.ensures _ c.in_err-check_width.was)

pub returns-then-l-gt1 : goal.returns-then-l-gt1
returns-then-l-gt1 c = c.refuse.ensures ∙ sym ((goes_on c.check_width.result (placed c.args.i (width_faults c.args.w)) (placed c.args.i (fault (lock_over c.args.l) 4 ∷ vector_faults c.args.w c.args.m c.args.v)) c.check_width.ensures c.in_ok-check_width.was) ∙ hits _ _ (lt-ltb _ _ c.if-l-gt1.true))

pub check_vector-requires : goal.check_vector-requires
check_vector-requires c =
    width-of-clear c.args.w c.args.i c.check_width.result c.check_width.ensures c.in_ok-check_width.was

pub returns : goal.returns
returns c = c.check_vector.ensures ∙ sym ((goes_on c.check_width.result (placed c.args.i (width_faults c.args.w)) (placed c.args.i (fault (lock_over c.args.l) 4 ∷ vector_faults c.args.w c.args.m c.args.v)) c.check_width.ensures c.in_ok-check_width.was) ∙ skips _ _ (le-ltb _ _ c.if-l-gt1.false))
