-- `orders::compare_states` meets its contract: what the checks refuse, or the order. Assumes nothing.
use mathlib.Core.Path.{sym, ap, ◌∙◌}
use Rattle.checks.specs.Check.{done}
use Rattle.checks.specs.Model.{answer_model, verdict_model}
use Rattle.checks.proofs.Verdicts.{refused-any, done-of-passed, passed-of-done}
use Rattle.checks.proofs.VerdictParts.{exit}
use Rattle.steps.specs.States.{held}
use Rattle.orders.specs.declared.Order.{Order}
use Rattle.orders.specs.Order.{compare_checks, compare_of}
use Rattle.orders.proofs.Orders.{own-rows, lengths, meets}
use Rattle.orders.proofs.compare_states.Goals as goal

pub returns-in_err-check_states : goal.returns-in_err-check_states
unfolding compare_of
returns-in_err-check_states c =
    let widths = c.args.width.now in
    let first = held c.args.mask_1.now c.args.value_1.now in
    let second = held c.args.mask_2.now c.args.value_2.now in
    let m = meets widths first second _
    (ap answer_model (exit _ _ c.from_residual.ensures.1) ∙ sym (refused-any (compare_checks widths first second) tt _ _ _ (sym c.check_states.ensures ∙ ap verdict_model c.in_err-check_states.was))) in
    record { answer = m.0; means = m.1 }

pub order_of-requires : goal.order_of-requires
order_of-requires c =
    let widths = c.args.width.now in
    let first = held c.args.mask_1.now c.args.value_1.now in
    let second = held c.args.mask_2.now c.args.value_2.now in
    let P = passed-of-done (compare_checks widths first second) tt tt (sym c.check_states.ensures ∙ ap verdict_model c.in_ok-check_states.was) in
    own-rows widths first second (lengths widths first second P)

pub returns : goal.returns
unfolding compare_of
returns c =
    let widths = c.args.width.now in
    let first = held c.args.mask_1.now c.args.value_1.now in
    let second = held c.args.mask_2.now c.args.value_2.now in
    let P = passed-of-done (compare_checks widths first second) tt tt (sym c.check_states.ensures ∙ ap verdict_model c.in_ok-check_states.was) in
    let m = meets widths first second (done c.order_of.result)
    (ap (λ (o : Order). done o) c.order_of.ensures ∙ sym (done-of-passed (compare_checks widths first second) _ P)) in
    record { answer = m.0; means = m.1 }
