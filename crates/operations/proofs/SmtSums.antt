-- The numbers of SMT-LIB's bvadd, bvneg, bvsub and bvmul. Assumes nothing.
use mathlib.Core.Path.{◌≡◌, ap, ap₂, ◌∙◌}
use Prim.Native.Nat.{ℕ, ◌+◌, ◌-◌, ◌*◌, ◌%◌, ◌^◌}
use native.Mathlib.Nat.{add-mod-mod}
use native.Mathlib.Omega.{arith}
use Rattle.operations.specs.Bitvector.{Bitvector}
use Rattle.operations.specs.SmtLib.{bvneg, bvadd, bvsub, bvmul}
use Rattle.operations.proofs.SmtNat.{Is, Is-below, Is-number, made-is}

pub add_is : {w a b : ℕ} {s t : Bitvector} → Is w a s → Is w b t → Is w ((a + b) % 2 ^ w) (bvadd s t)
unfolding bvadd
add_is {s = s} h g = made-is (ap₂ (λ (x y : ℕ). x + y) h.number_is g.number_is) s.width h.width_is

pub mul_is : {w a b : ℕ} {s t : Bitvector} → Is w a s → Is w b t → Is w (a * b % 2 ^ w) (bvmul s t)
unfolding bvmul
mul_is {s = s} h g = made-is (ap₂ (λ (x y : ℕ). x * y) h.number_is g.number_is) s.width h.width_is

pub neg_is : {w a : ℕ} {s : Bitvector} → Is w a s → Is w ((2 ^ w - a) % 2 ^ w) (bvneg s)
unfolding bvneg
neg_is {s = s} h = made-is (ap₂ (λ (x y : ℕ). 2 ^ x - y) h.width_is h.number_is) s.width h.width_is

pub sub_is : {w a b : ℕ} {s t : Bitvector} → Is w a s → Is w b t → Is w ((2 ^ w + a - b) % 2 ^ w) (bvsub s t)
unfolding bvsub
sub_is {w} {a} {b} h g =
    let l = Is-below g in
    let e : a + (2 ^ w - b) ≡ 2 ^ w + a - b = omega arith in
    Is-number (add-mod-mod a (2 ^ w - b) (2 ^ w) ∙ ap (λ (n : ℕ). n % 2 ^ w) e) (add_is h (neg_is g))
