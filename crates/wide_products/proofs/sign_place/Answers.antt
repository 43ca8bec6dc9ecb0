-- `sign_place` meets its contract. Assumes nothing.
use mathlib.Core.Path.{sym, ap, ◌∙◌}
use mathlib.Core.Bool.{Bool}
use Prim.Native.Nat.{◌-◌, ◌^◌}
use native.Mathlib.Nat.{one-mul, zero-mul}
use native.Mathlib.Omega.{arith}
use Rattle.bits.proofs.Words.{shifted_one}
use Rattle.operations.specs.Encoding.{sign_place}
use Rattle.wide_products.proofs.sign_place.Goals as goal

pub returns-then-signed : goal.returns-then-signed
returns-then-signed c =
    let a = c.args in
    shifted_one 32 (a.w - 1) (omega arith) ∙ sym (one-mul (2 ^ (a.w - 1))) ∙ ap (λ (b : Bool). sign_place b a.w) (sym c.if-signed.true)

pub returns : goal.returns
returns c =
    let a = c.args in
    sym (zero-mul (2 ^ (a.w - 1))) ∙ ap (λ (b : Bool). sign_place b a.w) (sym c.if-signed.false)
