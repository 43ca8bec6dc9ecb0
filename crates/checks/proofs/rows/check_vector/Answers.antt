-- `checks::rows::check_vector` meets its contract, test by test. Assumes nothing.
use mathlib.Core.Path.{sym, ap, ◌∙◌}
use mathlib.Core.Bool.{not}
use borrow.Author.Tests.{eq-eqb, ne_eqb, le-leb, lt-leb}
use Rattle.checks.proofs.Verdicts.{hits, skips, clears}
use Rattle.checks.proofs.VerdictParts.{over-mask, under-mask}
use Rattle.checks.proofs.rows.check_vector.Goals as goal

pub returns-then-full-m : goal.returns-then-full-m
returns-then-full-m c = c.refuse.ensures ∙ sym (hits _ _ (le-leb _ _ (over-mask _ _ _ c.width_mask-full.ensures c.if-full-m.true)))

pub returns-then-full-v : goal.returns-then-full-v
returns-then-full-v c =
    c.refuse-then-full-v.ensures ∙ sym ((skips _ _ (lt-leb _ _ (under-mask _ _ _ c.width_mask-full.ensures c.if-full-m.false))) ∙ hits _ _ (le-leb _ _ (over-mask _ _ _ c.width_mask-full.ensures c.if-full-v.true)))

pub returns-then-m-v-ne0 : goal.returns-then-m-v-ne0
returns-then-m-v-ne0 c = c.refuse-then-m-v-ne0.ensures ∙ sym (((skips _ _ (lt-leb _ _ (under-mask _ _ _ c.width_mask-full.ensures c.if-full-m.false))) ∙ skips _ _ (lt-leb _ _ (under-mask _ _ _ c.width_mask-full.ensures c.if-full-v.false))) ∙ hits _ _ (ap not (ne_eqb _ _ c.if-m-v-ne0.true)))

pub returns : goal.returns
returns c = sym (((skips _ _ (lt-leb _ _ (under-mask _ _ _ c.width_mask-full.ensures c.if-full-m.false))) ∙ skips _ _ (lt-leb _ _ (under-mask _ _ _ c.width_mask-full.ensures c.if-full-v.false))) ∙ clears _ (ap not (eq-eqb _ _ c.if-m-v-ne0.false)))
