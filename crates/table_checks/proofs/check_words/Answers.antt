-- `table_checks::check_words` meets its contract: check 3 without a stretch, test by test. Assumes nothing.
use mathlib.Core.Path.{sym, ap, ◌∙◌}
use mathlib.Core.Bool.{not}
use Rattle.checks.proofs.Verdicts.{hits, skips, clears}
use borrow.Author.Tests.{eq-eqb, ne_eqb, lt-ltb, le-ltb}
use Rattle.table_checks.proofs.check_words.Goals as goal

pub returns-then-words-ne0 : goal.returns-then-words-ne0
returns-then-words-ne0 c = c.refuse.ensures ∙ sym (hits _ _ (ap not (ne_eqb _ _ c.if-words-ne0.true)))

pub returns-then-words-gt-RECORD_LIMIT : goal.returns-then-words-gt-RECORD_LIMIT
returns-then-words-gt-RECORD_LIMIT c = c.refuse-then-words-gt-RECORD_LIMIT.ensures ∙ sym (skips _ _ (ap not (eq-eqb _ _ c.if-words-ne0.false)) ∙ hits _ _ (lt-ltb _ _ c.if-words-gt-RECORD_LIMIT.true))

pub returns : goal.returns
returns c = sym (skips _ _ (ap not (eq-eqb _ _ c.if-words-ne0.false)) ∙ clears _ (le-ltb _ _ c.if-words-gt-RECORD_LIMIT.false))
