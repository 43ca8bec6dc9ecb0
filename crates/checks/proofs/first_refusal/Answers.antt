-- `checks::first_refusal` meets its contract: the earlier refusal decides, else the later list does. Assumes nothing.
use mathlib.Core.Path.{sym, ap, ◌∙◌}
use Rattle.checks.specs.Model.{verdict_model}
use Rattle.checks.proofs.VerdictParts.{exit, goes_on, stops}
use Rattle.checks.proofs.first_refusal.Goals as goal

pub returns-in_err-earlier : goal.returns-in_err-earlier
returns-in_err-earlier c cs ds e f = ap verdict_model (exit _ _ c.from_residual.ensures.1) ∙ sym (stops c.args.earlier cs ds e _ c.in_err-earlier.was)

pub returns : goal.returns
returns c cs ds e f = f ∙ sym (goes_on c.args.earlier cs ds e c.in_ok-earlier.was)
