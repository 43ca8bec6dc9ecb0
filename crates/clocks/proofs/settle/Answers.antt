-- `clocks::settle` meets its contract: what the checks refuse, or the rounds with room of their own. Assumes nothing.
use mathlib.Core.Path.{refl, sym, ap, ◌∙◌}
use native.Mathlib.Omega.{arith}
use Prim.Native.Nat.{ℕ}
use Rattle.std.specs.Prelude.{Result}
use Rattle.checks.specs.declared.refusals.Refusal.{Refusal}
use Rattle.checks.specs.Model.{lent, verdict_model}
use Rattle.checks.proofs.VerdictParts.{exit}
use Rattle.clocks.specs.Model.{settled}
use Rattle.steps.proofs.Rooms.{room_for}
use Rattle.rounds.proofs.Answers.{ready-of-answer, settle-refused, settle-done, settle-meets}
use Rattle.clocks.proofs.settle.Goals as goal

pub returns-in_err-check_settle : goal.returns-in_err-check_settle
returns-in_err-check_settle c =
    let t = lent c.args.width.now c.args.lock.now c.args.mask.now c.args.value.now c.args.words.now in
    let m =
    settle-meets t c.args.states.now c.args.nexts.now _
    (ap (λ (r : Result ℕ Refusal). settled r c.args.mask.now c.args.value.now) (exit _ _ c.from_residual.ensures.1) ∙ settle-refused t c.args.states.now c.args.nexts.now _ _ (sym c.check_settle.ensures ∙ ap verdict_model c.in_err-check_settle.was)) in
    record { effect = m.0; settles = m.1 }

pub bounds-width-0 : goal.bounds-width-0
bounds-width-0 c =
    let t = lent c.args.width.now c.args.lock.now c.args.mask.now c.args.value.now c.args.words.now in
    let R = ready-of-answer t c.args.states.now c.args.nexts.now (sym c.check_settle.ensures ∙ ap verdict_model c.in_ok-check_settle.was) in
    omega (arith, R.accepted.table.rows_least)

pub settle_in-requires : goal.settle_in-requires
settle_in-requires c =
    let t = lent c.args.width.now c.args.lock.now c.args.mask.now c.args.value.now c.args.words.now in
    let R = ready-of-answer t c.args.states.now c.args.nexts.now (sym c.check_settle.ensures ∙ ap verdict_model c.in_ok-check_settle.was) in
    (R, room_for _ _ _ R.accepted.table.rows_most refl refl)

pub returns : goal.returns
returns c =
    let t = lent c.args.width.now c.args.lock.now c.args.mask.now c.args.value.now c.args.words.now in
    let R = ready-of-answer t c.args.states.now c.args.nexts.now (sym c.check_settle.ensures ∙ ap verdict_model c.in_ok-check_settle.was) in
    let m =
    settle-meets t c.args.states.now c.args.nexts.now _
    (settle-done t c.args.states.now c.args.nexts.now R _ c.settle_in.ensures.0 _ c.settle_in.ensures.1) in
    record { effect = m.0; settles = m.1 }
