-- Differences held in an i64: what a sum and a difference ask, and what they leave. Assumes nothing.
use mathlib.Core.Path.{◌≡◌, refl, sym, ap, ap₂, subst, ◌∙◌}
use Prim.Native.Nat.{ℕ, ◌+◌, ◌%◌, ◌^◌, ◌<◌}
use native.Mathlib.Omega.{arith}
use lib.Bits.{bit_and, and_mask}
use lib.IntN.{ℤ, pos, negsuc, ◌+ℤ◌, ◌-ℤ◌}
use mir.Val.{to_z, of_z, SFits}
use mir.Syntax.{w64}
use mir.Facts.{to_z-of_z, to_z_pos}
use Rattle.products.specs.ColumnSum.{mod_two}
use Rattle.products.proofs.Integers.{Minus, minus_pos, minus-add, minus-mag}

-- a difference of numbers below 2 ^ 63 fits
pub minus-fits : (z : ℤ) (p q : ℕ) → Minus z p q → p < 2 ^ 63 → q < 2 ^ 63 → SFits w64 z
minus-fits z p q m h l = record { sfits = minus-mag z p q (2 ^ 63) m h (omega arith) }

-- x and y are the bits of two numbers that are not negative
module _ (x y : ℕ) (hx : x < 2 ^ 63) (hy : y < 2 ^ 63) where
  held : to_z w64 x -ℤ to_z w64 y ≡ pos x -ℤ pos y
  held = ap₂ (λ (a b : ℤ). a -ℤ b) (to_z_pos w64 hx) (to_z_pos w64 hy)

  pub sub-fits : SFits w64 (to_z w64 x -ℤ to_z w64 y)
  sub-fits = subst (SFits w64) (sym held) (minus-fits (pos x -ℤ pos y) x y (minus_pos x y) hx hy)

  pub sub_held : to_z w64 (of_z w64 (to_z w64 x -ℤ to_z w64 y)) ≡ pos x -ℤ pos y
  sub_held = to_z-of_z sub-fits ∙ held

-- s is the bits of p - q, and z is r - t
module _ (s : ℕ) (z : ℤ) (p q r t : ℕ) (m : Minus (to_z w64 s) p q) (n : Minus z r t) (hp : p + r < 2 ^ 63) (hq : q + t < 2 ^ 63) where
  sum-minus : Minus (to_z w64 s +ℤ to_z w64 (of_z w64 z)) (p + r) (q + t)
  sum-minus =
      minus-add (to_z w64 s) (to_z w64 (of_z w64 z)) p q r t m
      (subst (λ (y : ℤ). Minus y r t) (sym (to_z-of_z (minus-fits z r t n (omega arith) (omega arith)))) n)

  pub add-fits : SFits w64 (to_z w64 s +ℤ to_z w64 (of_z w64 z))
  add-fits = minus-fits _ (p + r) (q + t) sum-minus hp hq

  pub add-held : Minus (to_z w64 (of_z w64 (to_z w64 s +ℤ to_z w64 (of_z w64 z)))) (p + r) (q + t)
  add-held = subst (λ (y : ℤ). Minus y (p + r) (q + t)) (sym (to_z-of_z add-fits)) sum-minus

-- ---- equality and the lowest bit

pub same_bits : {y z : ℤ} → SFits w64 y → SFits w64 z → of_z w64 y ≡ of_z w64 z → y ≡ z
same_bits f g e = sym (to_z-of_z f) ∙ ap (to_z w64) e ∙ to_z-of_z g

bits-mod : (z : ℤ) → SFits w64 z → of_z w64 z % 2 ≡ mod_two z
bits-mod (pos n) f = refl
bits-mod (negsuc n) f = omega (arith, f.sfits)

pub lowest-bit : (z : ℤ) → SFits w64 z → bit_and (of_z w64 z) 1 ≡ mod_two z
lowest-bit z f = and_mask (of_z w64 z) 1 ∙ bits-mod z f
