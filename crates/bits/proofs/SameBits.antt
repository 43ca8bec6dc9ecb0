-- Numbers that differ in their lowest bits alone, and what lies between them. Assumes nothing.
--   differ-cases               two bits are the same, or one of them is 1
--   bit-of-quotient            numbers whose quotients by 2 ^ h are equal have equal bits from h on
--   same-quotient, same_from   x and z, which differ below place n alone: their quotients, and the bits from n on of what lies between
use mathlib.Core.Path.{◌≡◌, refl, sym, ap, ◌∙◌}
use mathlib.Core.Logic.{◌⊎◌, inl, inr}
use Prim.Native.Nat.{ℕ, zero, suc, ◌+◌, ◌-◌, ◌/◌, ◌^◌, ◌≤◌, ◌<◌}
use native.Mathlib.Nat.{lt_of_le_of_lt}
use native.Mathlib.Omega.{arith}
use lib.Pow.{shr_le, shr_mono}
use lib.Bits.{bit_xor, differ}
use Rattle.bits.specs.Bit.{bit}
use Rattle.bits.proofs.Bits.{bit-lt, bit-xor, bit-above, bit-ext}
use Rattle.bits.proofs.Shifts.{bit-div}

pub differ-cases : (x y : ℕ) → x < 2 → y < 2 → ((x ≡ y) × (differ x y ≡ 0)) ⊎ ((x + y ≡ 1) × (differ x y ≡ 1))
differ-cases zero zero p q = inl (refl, refl)
differ-cases zero (suc zero) p q = inr (omega arith, refl)
differ-cases zero (suc (suc y)) p q = absurd (omega arith)
differ-cases (suc zero) zero p q = inr (omega arith, refl)
differ-cases (suc zero) (suc zero) p q = inl (refl, omega arith)
differ-cases (suc zero) (suc (suc y)) p q = absurd (omega arith)
differ-cases (suc (suc x)) y p q = absurd (omega arith)

pub bit-of-quotient : (m n h k : ℕ) → h ≤ k → m / 2 ^ h ≡ n / 2 ^ h → bit m k ≡ bit n k
bit-of-quotient m n h k l e =
    let d : k ≡ k - h + h = omega arith in
    ap (bit m) d ∙ sym (bit-div m h (k - h)) ∙ ap (λ (x : ℕ). bit x (k - h)) e ∙ bit-div n h (k - h) ∙ ap (bit n) (sym d)

module _ (v x z n : ℕ) (hx : x < 2 ^ v) (hz : z < 2 ^ v) (h : bit_xor x z < 2 ^ n) where
  above : (k : ℕ) → n ≤ k → bit x k ≡ bit z k
  above k l =
      let e = sym (bit-xor x z k) ∙ bit-above n (bit_xor x z) k h l in
      elim (differ-cases (bit x k) (bit z k) (bit-lt x k) (bit-lt z k)) [ inl s ↦ s.0 | inr s ↦ absurd (omega (arith, s.1)) ]

  pub same-quotient : x / 2 ^ n ≡ z / 2 ^ n
  same-quotient =
      bit-ext v (x / 2 ^ n) (z / 2 ^ n) (lt_of_le_of_lt (shr_le x n) hx) (lt_of_le_of_lt (shr_le z n) hz)
      (λ k l. bit-div x n k ∙ above (k + n) (omega arith) ∙ sym (bit-div z n k))

  pub same_from : (y k : ℕ) → x ≤ y → y ≤ z → n ≤ k → bit y k ≡ bit x k
  same_from y k p q l =
      let a = shr_mono n p in
      let b = shr_mono n q in
      bit-of-quotient y x n k l (omega (arith, a, b, same-quotient))
