-- The number that has given bits, and the tests of bits. Assumes nothing.
--   digit-is_set, is_set-true, is_set-false, ..       a test of a bit and the bit
--   number-ext                                     the number of given bits
--   number-of-bits, number-self                    the number of a number's own bits
--   zero-of-bits, below-of-bits                    a number without bits at or above w is below 2 ^ w
use mathlib.Core.Path.{◌≡◌, refl, sym, ap, ap₂, ◌∙◌}
use mathlib.Core.Bool.{Bool, true, false}
use mathlib.Core.Logic.{inl, inr}
use Prim.Native.Nat.{ℕ, zero, suc, ◌+◌, ◌*◌, ◌/◌, ◌%◌, ◌^◌, ◌≤◌, ◌<◌}
use native.Mathlib.Nat.{mod-lt, mod-eq_of_lt}
use native.Mathlib.Omega.{arith}
use lib.Dec.{eqb}
use lib.Pow.{pow_pos, split}
use lib.Arith.{bin_ind}
use Rattle.bits.specs.Bit.{bit, is_set, digit, number}
use Rattle.bits.proofs.Bits.{bit-zero, bit-suc, bit-cases, bit-ext, number-below, bit-number}
use Rattle.bits.proofs.Shifts.{bit-div, bit-mod}

-- ---- is_set and bit

pub digit-is_set : (n k : ℕ) → digit (is_set n k) ≡ bit n k
unfolding is_set
digit-is_set n k =
    elim (bit-cases n k) [
      | inl e ↦ ap (λ (b : ℕ). digit (eqb b 1)) e ∙ sym e
      | inr e ↦ ap (λ (b : ℕ). digit (eqb b 1)) e ∙ sym e
    ]

pub is_set-true : (n k : ℕ) → bit n k ≡ 1 → is_set n k ≡ true
unfolding is_set
is_set-true n k e = ap (λ (b : ℕ). eqb b 1) e

pub is_set-false : (n k : ℕ) → bit n k ≡ 0 → is_set n k ≡ false
unfolding is_set
is_set-false n k e = ap (λ (b : ℕ). eqb b 1) e

pub is_set-same : (m j n k : ℕ) → bit m j ≡ bit n k → is_set m j ≡ is_set n k
unfolding is_set
is_set-same m j n k e = ap (λ (b : ℕ). eqb b 1) e

-- a test is read back from its digit
pub is_set-digit : (n k : ℕ) (b : Bool) → bit n k ≡ digit b → is_set n k ≡ b
is_set-digit n k true e = is_set-true n k e
is_set-digit n k false e = is_set-false n k e

-- ---- number

pub number-ext : (w : ℕ) (p q : ℕ → Bool) → ((k : ℕ) → k < w → p k ≡ q k) → number w p ≡ number w q
unfolding number
number-ext zero p q h = refl
number-ext (suc w) p q h =
    ap₂ (λ (x y : ℕ). x * 2 + y)
    (number-ext w (λ k. p (suc k)) (λ k. q (suc k)) (λ k l. h (suc k) (omega arith)))
    (ap digit (h 0 (omega arith)))

-- the bits of a number make up the number
pub number-of-bits : (w n : ℕ) → number w (is_set n) ≡ n % 2 ^ w
number-of-bits w n =
    bit-ext w (number w (is_set n)) (n % 2 ^ w) (number-below w (is_set n)) (mod-lt n (pow_pos w))
    (λ k l. bit-number w (is_set n) k l ∙ digit-is_set n k ∙ sym (bit-mod n w k l))

pub number-self : (w n : ℕ) → n < 2 ^ w → number w (is_set n) ≡ n
number-self w n h = number-of-bits w n ∙ mod-eq_of_lt h

-- ---- numbers without bits at or above a width

pub zero-of-bits : (n : ℕ) → ((k : ℕ) → bit n k ≡ 0) → n ≡ 0
zero-of-bits = bin_ind (λ n. ((k : ℕ) → bit n k ≡ 0) → n ≡ 0) (λ h. refl) step
  where
    step : (n : ℕ) → (((k : ℕ) → bit (n / 2) k ≡ 0) → n / 2 ≡ 0) → ((k : ℕ) → bit n k ≡ 0) → n ≡ 0
    step n rest h =
        let e : n / 2 ≡ 0 = rest (λ k. sym (bit-suc n k) ∙ h (suc k)) in
        omega (arith, bit-zero n, h 0)

pub below-of-bits : (w n : ℕ) → ((k : ℕ) → w ≤ k → bit n k ≡ 0) → n < 2 ^ w
below-of-bits w n h =
    let e : n / 2 ^ w ≡ 0 = zero-of-bits (n / 2 ^ w) (λ k. bit-div n w k ∙ h (k + w) (omega arith)) in
    omega (arith, split n w, ap (λ (x : ℕ). x * 2 ^ w) e, mod-lt n (pow_pos w))
