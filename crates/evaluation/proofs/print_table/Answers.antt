-- `evaluation::print_table` meets its contract: run, then the table's text. Assumes nothing.
use mathlib.Core.Path.{refl, sym, ap, ◌∙◌}
use Prim.Native.Nat.{ℕ}
use Rattle.std.specs.Prelude.{Result}
use Rattle.checks.specs.declared.refusals.Refusal.{Refusal}
use Rattle.checks.specs.Model.{lent}
use Rattle.checks.proofs.VerdictParts.{exit}
use Rattle.tables.specs.Model.{ran}
use Rattle.steps.specs.States.{held}
use Rattle.evaluation.proofs.Printed.{printed-refused, told-refused, told-written}
use Rattle.evaluation.proofs.print_table.Goals as goal

pub returns-in_err-run : goal.returns-in_err-run
returns-in_err-run c =
    let a = c.args in
    let rows = held c.run.new.mask c.run.new.value in
    let e = ap (λ (x : Result ℕ Refusal). ran x c.run.new.mask c.run.new.value) (sym c.in_err-run.was) ∙ c.run.ensures.effect in
    told-refused _ _ (exit _ _ c.from_residual.ensures.1) (printed-refused (lent a.width.now a.lock.now a.mask.now a.value.now a.words.now) _ _ rows e) refl

pub returns : goal.returns
returns c =
    let a = c.args in
    let rows = held c.run.new.mask c.run.new.value in
    let e = ap (λ (x : Result ℕ Refusal). ran x c.run.new.mask c.run.new.value) (sym c.in_ok-run.was) ∙ c.run.ensures.effect in
    told-written (lent a.width.now a.lock.now a.mask.now a.value.now a.words.now) _ rows e a.out.now c.requires c.write.result c.write.new.out c.write.ensures
