-- `checks::cells::check_span` meets its contract, test by test. Assumes nothing.
use mathlib.Core.Path.{sym, ap, ◌∙◌}
use mathlib.Core.Bool.{not}
use borrow.Author.Tests.{lt-ltb, le-ltb, eq-eqb, ne_eqb}
use Rattle.checks.proofs.Verdicts.{hits, skips, clears}
use Rattle.checks.proofs.cells.check_span.Goals as goal

pub returns-then-row_outside : goal.returns-then-row_outside
returns-then-row_outside c = c.refuse.ensures ∙ sym (hits _ _ (sym c.row_outside.ensures ∙ c.if-row_outside.true))

pub returns-then-row_outside-2 : goal.returns-then-row_outside-2
returns-then-row_outside-2 c = c.refuse-then-row_outside-2.ensures ∙ sym ((skips _ _ (sym c.row_outside.ensures ∙ c.if-row_outside.false)) ∙ hits _ _ (sym c.row_outside-2.ensures ∙ c.if-row_outside-2.true))

pub returns-then-row_outside-3 : goal.returns-then-row_outside-3
returns-then-row_outside-3 c = c.refuse-then-row_outside-3.ensures ∙ sym (((skips _ _ (sym c.row_outside.ensures ∙ c.if-row_outside.false)) ∙ skips _ _ (sym c.row_outside-2.ensures ∙ c.if-row_outside-2.false)) ∙ hits _ _ (sym c.row_outside-3.ensures ∙ c.if-row_outside-3.true))

pub returns-then-n-base : goal.returns-then-n-base
returns-then-n-base c =
    let a = c.args in
    c.refuse-then-n-base.ensures ∙ sym ((((skips _ _ (sym c.row_outside.ensures ∙ c.if-row_outside.false)) ∙ skips _ _ (sym c.row_outside-2.ensures ∙ c.if-row_outside-2.false)) ∙ skips _ _ (sym c.row_outside-3.ensures ∙ c.if-row_outside-3.false)) ∙ hits _ _ (lt-ltb a.n _ c.if-n-base.true))

pub returns-then-zero-ne0 : goal.returns-then-zero-ne0
returns-then-zero-ne0 c = c.refuse-then-zero-ne0.ensures ∙ sym ((let a = c.args in
    (((skips _ _ (sym c.row_outside.ensures ∙ c.if-row_outside.false)) ∙ skips _ _ (sym c.row_outside-2.ensures ∙ c.if-row_outside-2.false)) ∙ skips _ _ (sym c.row_outside-3.ensures ∙ c.if-row_outside-3.false)) ∙ skips _ _ (le-ltb a.n _ c.if-n-base.false)) ∙ hits _ _ (ap not (ne_eqb _ _ c.if-zero-ne0.true)))

pub returns-then-count-eq0 : goal.returns-then-count-eq0
returns-then-count-eq0 c = c.refuse-then-count-eq0.ensures ∙ sym (((let a = c.args in
    (((skips _ _ (sym c.row_outside.ensures ∙ c.if-row_outside.false)) ∙ skips _ _ (sym c.row_outside-2.ensures ∙ c.if-row_outside-2.false)) ∙ skips _ _ (sym c.row_outside-3.ensures ∙ c.if-row_outside-3.false)) ∙ skips _ _ (le-ltb a.n _ c.if-n-base.false)) ∙ skips _ _ (ap not (eq-eqb _ _ c.if-zero-ne0.false))) ∙ hits _ _ (eq-eqb _ _ c.if-count-eq0.true))

pub returns : goal.returns
returns c = sym (((let a = c.args in
    (((skips _ _ (sym c.row_outside.ensures ∙ c.if-row_outside.false)) ∙ skips _ _ (sym c.row_outside-2.ensures ∙ c.if-row_outside-2.false)) ∙ skips _ _ (sym c.row_outside-3.ensures ∙ c.if-row_outside-3.false)) ∙ skips _ _ (le-ltb a.n _ c.if-n-base.false)) ∙ skips _ _ (ap not (eq-eqb _ _ c.if-zero-ne0.false))) ∙ clears _ (ne_eqb _ _ c.if-count-eq0.false))
