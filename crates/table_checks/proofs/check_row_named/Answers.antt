-- `table_checks::check_row_named` meets its contract: the row named lies outside the table, or not. Assumes nothing.
use mathlib.Core.Path.{sym, ◌∙◌}
use Rattle.checks.proofs.Verdicts.{hits, clears}
use borrow.Author.Tests.{le-leb, lt-leb}
use Rattle.table_checks.proofs.check_row_named.Goals as goal

pub returns-then-width-row : goal.returns-then-width-row
returns-then-width-row c = c.refuse.ensures ∙ sym (hits _ _ (le-leb _ _ c.if-width-row.true))

pub returns : goal.returns
returns c = sym (clears _ (lt-leb _ _ c.if-width-row.false))
