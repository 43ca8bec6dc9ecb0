-- `tables::run` meets its contract: checked whole, then stepped through the part of the words that the stretch is. Assumes nothing.
use mathlib.Core.Path.{sym, ap, subst, ◌∙◌}
use Prim.Native.Nat.{ℕ}
use native.Mathlib.Omega.{arith}
use Rattle.std.specs.Prelude.{Result}
use Rattle.checks.specs.declared.refusals.Refusal.{Refusal}
use Rattle.checks.specs.Model.{lent, verdict_model}
use Rattle.checks.proofs.VerdictParts.{exit}
use Rattle.tables.specs.Model.{ran}
use Rattle.tables.proofs.StretchLaws.{part-ready, part-after}
use Rattle.tables.proofs.RunLaws.{Meets, refused-meets, accepted-run, done-meets}
use Rattle.tables.proofs.run.Goals as goal

pub returns-in_err-check_run : goal.returns-in_err-check_run
returns-in_err-check_run c =
    let a = c.args in
    let t = lent a.width.now a.lock.now a.mask.now a.value.now a.words.now in
    let m =
    subst (λ (r : Result ℕ Refusal). Meets t a.first a.last (ran r a.mask.now a.value.now)) (sym (exit _ _ c.from_residual.ensures.1))
    (refused-meets t a.first a.last _ _ (sym c.check_run.ensures ∙ ap verdict_model c.in_err-check_run.was)) in
    record { effect = m.0; demand2 = m.1.0; demand3 = m.1.1 }

pub overflow_mul-start : goal.overflow_mul-start
overflow_mul-start c =
    let a = c.args in
    let t = lent a.width.now a.lock.now a.mask.now a.value.now a.words.now in
    let h = accepted-run t a.first a.last (sym c.check_run.ensures ∙ ap verdict_model c.in_ok-check_run.was) in
    omega (arith, h)

pub overflow_mul-end : goal.overflow_mul-end
overflow_mul-end c =
    let a = c.args in
    let t = lent a.width.now a.lock.now a.mask.now a.value.now a.words.now in
    let h = accepted-run t a.first a.last (sym c.check_run.ensures ∙ ap verdict_model c.in_ok-check_run.was) in
    omega (arith, h)

pub offset_bounds-words-start : goal.offset_bounds-words-start
offset_bounds-words-start c =
    let a = c.args in
    let t = lent a.width.now a.lock.now a.mask.now a.value.now a.words.now in
    let h = accepted-run t a.first a.last (sym c.check_run.ensures ∙ ap verdict_model c.in_ok-check_run.was) in
    omega (arith, h)

pub slice_bounds-step_all-count : goal.slice_bounds-step_all-count
slice_bounds-step_all-count c =
    let a = c.args in
    let t = lent a.width.now a.lock.now a.mask.now a.value.now a.words.now in
    let h = accepted-run t a.first a.last (sym c.check_run.ensures ∙ ap verdict_model c.in_ok-check_run.was) in
    omega (arith, h)

pub slice_bounds-step_all-start : goal.slice_bounds-step_all-start
slice_bounds-step_all-start c =
    let a = c.args in
    let t = lent a.width.now a.lock.now a.mask.now a.value.now a.words.now in
    let h = accepted-run t a.first a.last (sym c.check_run.ensures ∙ ap verdict_model c.in_ok-check_run.was) in
    omega (arith, h)

pub slice_bounds-step_all-end : goal.slice_bounds-step_all-end
slice_bounds-step_all-end c =
    let a = c.args in
    let t = lent a.width.now a.lock.now a.mask.now a.value.now a.words.now in
    let h = accepted-run t a.first a.last (sym c.check_run.ensures ∙ ap verdict_model c.in_ok-check_run.was) in
    omega (arith, h)

pub step_all-requires : goal.step_all-requires
step_all-requires c =
    let a = c.args in
    let t = lent a.width.now a.lock.now a.mask.now a.value.now a.words.now in
    let h = accepted-run t a.first a.last (sym c.check_run.ensures ∙ ap verdict_model c.in_ok-check_run.was) in
    part-ready t a.first a.last h

pub returns : goal.returns
returns c =
    let a = c.args in
    let t = lent a.width.now a.lock.now a.mask.now a.value.now a.words.now in
    let h = accepted-run t a.first a.last (sym c.check_run.ensures ∙ ap verdict_model c.in_ok-check_run.was) in
    let m = done-meets t a.first a.last h _ (c.step_all.ensures ∙ part-after t a.first a.last h) in
    record { effect = m.0; demand2 = m.1.0; demand3 = m.1.1 }
