-- `resets::reset_bits` meets its contract: what the checks refuse, or what the pass with room of its own answers and leaves. Assumes nothing.
use mathlib.Core.Path.{sym, ap, ◌∙◌}
use Prim.Native.Nat.{ℕ}
use lib.Seq.{length-take-le}
use Rattle.std.specs.Prelude.{Result}
use Rattle.checks.specs.declared.refusals.Refusal.{Refusal}
use Rattle.checks.specs.Model.{lent, verdict_model}
use Rattle.checks.proofs.VerdictParts.{exit}
use Rattle.conclusions.specs.Encoding.{Named}
use Rattle.conclusions.proofs.Answers.{named-of-answer, naming-refused, reset-meets}
use Rattle.resets.specs.Model.{reset_ran}
use Rattle.resets.proofs.reset_bits.Goals as goal
use Rattle.resets.proofs.reset_bits.Goals.{In_ok-check_naming}

-- the checks passed
named : (c : goal.In_ok-check_naming) → Named (lent c.args.width.now c.args.lock.now c.args.mask.now c.args.value.now c.args.words.now) c.args.row c.args.bit
named c =
    let a = c.args in
    named-of-answer (lent a.width.now a.lock.now a.mask.now a.value.now a.words.now) a.row a.bit (sym c.check_naming.ensures ∙ ap verdict_model c.in_ok-check_naming.was)

pub returns-in_err-check_naming : goal.returns-in_err-check_naming
returns-in_err-check_naming c =
    let a = c.args in
    let t = lent a.width.now a.lock.now a.mask.now a.value.now a.words.now in
    let e = exit _ _ c.from_residual.ensures.1 in
    let h = reset-meets t a.row a.bit _
    (ap (λ (r : Result ℕ Refusal). reset_ran r a.mask.now a.value.now) e ∙ naming-refused t a.row a.bit _ _ (sym c.check_naming.ensures ∙ ap verdict_model c.in_err-check_naming.was)) in
    record { effect = h.0; rests = h.1 }

-- the trial rows are the first of the room
pub slice_bounds-rmask-end : goal.slice_bounds-rmask-end
slice_bounds-rmask-end c = (named (goal.at.slice_bounds-rmask-end c).In_ok-check_naming).accepted.table.rows_most

pub slice_bounds-reset_with-end : goal.slice_bounds-reset_with-end
slice_bounds-reset_with-end c = sym (length-take-le _ _ (named (goal.at.slice_bounds-reset_with-end c).In_ok-check_naming).accepted.table.rows_most)

pub slice_bounds-rvalue-end : goal.slice_bounds-rvalue-end
slice_bounds-rvalue-end c = (named (goal.at.slice_bounds-rvalue-end c).In_ok-check_naming).accepted.table.rows_most

pub slice_bounds-reset_with-end-2 : goal.slice_bounds-reset_with-end-2
slice_bounds-reset_with-end-2 c = sym (length-take-le _ _ (named (goal.at.slice_bounds-reset_with-end-2 c).In_ok-check_naming).accepted.table.rows_most)

pub reset_with-requires : goal.reset_with-requires
reset_with-requires c =
    let N = named (goal.at.reset_with-requires c).In_ok-check_naming in
    let m = N.accepted.table.rows_most in
    (N, record { masks_length = length-take-le _ _ m; values_length = length-take-le _ _ m })

pub returns : goal.returns
returns c =
    let h = reset-meets (lent c.args.width.now c.args.lock.now c.args.mask.now c.args.value.now c.args.words.now) c.args.row c.args.bit _ c.reset_with.ensures in
    record { effect = h.0; rests = h.1 }
