-- `checks::rows::check_width` meets its contract, test by test. Assumes nothing.
use mathlib.Core.Path.{sym, ◌∙◌}
use borrow.Author.Tests.{eq-eqb, ne_eqb, lt-ltb, le-ltb}
use Rattle.checks.proofs.Verdicts.{hits, skips, clears}
use Rattle.checks.proofs.rows.check_width.Goals as goal

pub returns-then-w-eq0 : goal.returns-then-w-eq0
returns-then-w-eq0 c = c.refuse.ensures ∙ sym (hits _ _ (eq-eqb _ _ c.if-w-eq0.true))

pub returns-then-w-gt-WIDTH_LIMIT : goal.returns-then-w-gt-WIDTH_LIMIT
returns-then-w-gt-WIDTH_LIMIT c = c.refuse-then-w-gt-WIDTH_LIMIT.ensures ∙ sym (skips _ _ (ne_eqb _ _ c.if-w-eq0.false) ∙ hits _ _ (lt-ltb _ _ c.if-w-gt-WIDTH_LIMIT.true))

pub returns : goal.returns
returns c = sym (skips _ _ (ne_eqb _ _ c.if-w-eq0.false) ∙ clears _ (le-ltb _ _ c.if-w-gt-WIDTH_LIMIT.false))
