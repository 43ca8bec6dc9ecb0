-- `checks::named::first_fault` meets its contract, test by test. Assumes nothing.
use mathlib.Core.Path.{sym, ◌∙◌}
use Rattle.operations.specs.Kinds.{is_kind}
use Rattle.checks.proofs.Verdicts.{hits, skips, clears}
use Rattle.checks.proofs.Naming.{kind-passes, first-outside, first-misused, target-outside, target-misused, no_span}
use Rattle.checks.proofs.named.first_fault.Goals as goal

pub returns-then-row_outside : goal.returns-then-row_outside
returns-then-row_outside c = c.refuse.ensures ∙ sym ((skips _ _ (kind-passes (is_kind c.args.r.kind) c.requires.0)) ∙ hits _ _ ((target-outside c.args.n c.args.r c.requires.0 c.requires.1) ∙ sym c.row_outside.ensures ∙ c.if-row_outside.true))

pub returns-then-row_outside-2 : goal.returns-then-row_outside-2
returns-then-row_outside-2 c =
    c.refuse-then-row_outside-2.ensures
    ∙ sym (((skips _ _ (kind-passes (is_kind c.args.r.kind) c.requires.0)) ∙ skips _ _ ((target-outside c.args.n c.args.r c.requires.0 c.requires.1) ∙ sym c.row_outside.ensures ∙ c.if-row_outside.false)) ∙ hits _ _ (first-outside c.args.n c.args.r c.requires.0 ∙ sym c.row_outside-2.ensures ∙ c.if-row_outside-2.true))

pub returns-then-second_outside : goal.returns-then-second_outside
returns-then-second_outside c = c.refuse-then-second_outside.ensures ∙ sym ((((skips _ _ (kind-passes (is_kind c.args.r.kind) c.requires.0)) ∙ skips _ _ ((target-outside c.args.n c.args.r c.requires.0 c.requires.1) ∙ sym c.row_outside.ensures ∙ c.if-row_outside.false)) ∙ skips _ _ (first-outside c.args.n c.args.r c.requires.0 ∙ sym c.row_outside-2.ensures ∙ c.if-row_outside-2.false)) ∙ hits _ _ (sym c.second_outside.ensures ∙ c.if-second_outside.true))

pub returns-then-sixth_outside : goal.returns-then-sixth_outside
returns-then-sixth_outside c = c.refuse-then-sixth_outside.ensures ∙ sym (((((skips _ _ (kind-passes (is_kind c.args.r.kind) c.requires.0)) ∙ skips _ _ ((target-outside c.args.n c.args.r c.requires.0 c.requires.1) ∙ sym c.row_outside.ensures ∙ c.if-row_outside.false)) ∙ skips _ _ (first-outside c.args.n c.args.r c.requires.0 ∙ sym c.row_outside-2.ensures ∙ c.if-row_outside-2.false)) ∙ skips _ _ (sym c.second_outside.ensures ∙ c.if-second_outside.false)) ∙ hits _ _ (sym c.sixth_outside.ensures ∙ c.if-sixth_outside.true))

pub returns-then-second_misused : goal.returns-then-second_misused
returns-then-second_misused c = c.refuse-then-second_misused.ensures ∙ sym ((let n = c.args.n in
    let r = c.args.r in
    ((((skips _ _ (kind-passes (is_kind c.args.r.kind) c.requires.0)) ∙ skips _ _ ((target-outside c.args.n c.args.r c.requires.0 c.requires.1) ∙ sym c.row_outside.ensures ∙ c.if-row_outside.false)) ∙ skips _ _ (first-outside c.args.n c.args.r c.requires.0 ∙ sym c.row_outside-2.ensures ∙ c.if-row_outside-2.false)) ∙ skips _ _ (sym c.second_outside.ensures ∙ c.if-second_outside.false)) ∙ skips _ _ (sym c.sixth_outside.ensures ∙ c.if-sixth_outside.false)
    ∙ skips _ _ (no_span n r c.requires.0 c.requires.1) ∙ skips _ _ (target-misused n r c.requires.0 c.requires.1) ∙ skips _ _ (first-misused n r c.requires.0)) ∙ hits _ _ (sym c.second_misused.ensures ∙ c.if-second_misused.true))

pub returns-then-parameter_misused : goal.returns-then-parameter_misused
returns-then-parameter_misused c = c.refuse-then-parameter_misused.ensures ∙ sym (((let n = c.args.n in
    let r = c.args.r in
    ((((skips _ _ (kind-passes (is_kind c.args.r.kind) c.requires.0)) ∙ skips _ _ ((target-outside c.args.n c.args.r c.requires.0 c.requires.1) ∙ sym c.row_outside.ensures ∙ c.if-row_outside.false)) ∙ skips _ _ (first-outside c.args.n c.args.r c.requires.0 ∙ sym c.row_outside-2.ensures ∙ c.if-row_outside-2.false)) ∙ skips _ _ (sym c.second_outside.ensures ∙ c.if-second_outside.false)) ∙ skips _ _ (sym c.sixth_outside.ensures ∙ c.if-sixth_outside.false)
    ∙ skips _ _ (no_span n r c.requires.0 c.requires.1) ∙ skips _ _ (target-misused n r c.requires.0 c.requires.1) ∙ skips _ _ (first-misused n r c.requires.0)) ∙ skips _ _ (sym c.second_misused.ensures ∙ c.if-second_misused.false)) ∙ hits _ _ (sym c.parameter_misused.ensures ∙ c.if-parameter_misused.true))

pub returns-then-sixth_misused : goal.returns-then-sixth_misused
returns-then-sixth_misused c = c.refuse-then-sixth_misused.ensures ∙ sym ((((let n = c.args.n in
    let r = c.args.r in
    ((((skips _ _ (kind-passes (is_kind c.args.r.kind) c.requires.0)) ∙ skips _ _ ((target-outside c.args.n c.args.r c.requires.0 c.requires.1) ∙ sym c.row_outside.ensures ∙ c.if-row_outside.false)) ∙ skips _ _ (first-outside c.args.n c.args.r c.requires.0 ∙ sym c.row_outside-2.ensures ∙ c.if-row_outside-2.false)) ∙ skips _ _ (sym c.second_outside.ensures ∙ c.if-second_outside.false)) ∙ skips _ _ (sym c.sixth_outside.ensures ∙ c.if-sixth_outside.false)
    ∙ skips _ _ (no_span n r c.requires.0 c.requires.1) ∙ skips _ _ (target-misused n r c.requires.0 c.requires.1) ∙ skips _ _ (first-misused n r c.requires.0)) ∙ skips _ _ (sym c.second_misused.ensures ∙ c.if-second_misused.false)) ∙ skips _ _ (sym c.parameter_misused.ensures ∙ c.if-parameter_misused.false)) ∙ hits _ _ (sym c.sixth_misused.ensures ∙ c.if-sixth_misused.true))

pub returns : goal.returns
returns c = sym ((((let n = c.args.n in
    let r = c.args.r in
    ((((skips _ _ (kind-passes (is_kind c.args.r.kind) c.requires.0)) ∙ skips _ _ ((target-outside c.args.n c.args.r c.requires.0 c.requires.1) ∙ sym c.row_outside.ensures ∙ c.if-row_outside.false)) ∙ skips _ _ (first-outside c.args.n c.args.r c.requires.0 ∙ sym c.row_outside-2.ensures ∙ c.if-row_outside-2.false)) ∙ skips _ _ (sym c.second_outside.ensures ∙ c.if-second_outside.false)) ∙ skips _ _ (sym c.sixth_outside.ensures ∙ c.if-sixth_outside.false)
    ∙ skips _ _ (no_span n r c.requires.0 c.requires.1) ∙ skips _ _ (target-misused n r c.requires.0 c.requires.1) ∙ skips _ _ (first-misused n r c.requires.0)) ∙ skips _ _ (sym c.second_misused.ensures ∙ c.if-second_misused.false)) ∙ skips _ _ (sym c.parameter_misused.ensures ∙ c.if-parameter_misused.false)) ∙ clears _ (sym c.sixth_misused.ensures ∙ c.if-sixth_misused.false))
