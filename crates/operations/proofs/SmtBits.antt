-- Laws of bits that the numbers of SMT-LIB's terms need. Assumes nothing.
--   T-ext            two tests that hold of the same are equal
--   bit-of           a bit of a number given by the bits of another
--   sign_extended    a number's bits with the top bit above them, as a sum
--   shifted-zero, shifted_one   a number's bits moved down with the top bit above them, by the top bit
use mathlib.Core.Path.{◌≡◌, refl, sym, ap, subst, ◌∙◌}
use mathlib.Core.Bool.{Bool, true, false}
use Prim.Native.Nat.{ℕ, zero, suc, ◌+◌, ◌-◌, ◌*◌, ◌/◌, ◌^◌, ◌≤◌, ◌<◌, min}
use native.Mathlib.Nat.{zero-mul, one-mul, lt_of_le_of_lt}
use native.Mathlib.Decide.{dec_lt}
use native.Mathlib.Omega.{arith}
use lib.Dec.{T}
use lib.Pow.{pow_pos, pow-add, shr_le, ones_sub-lt}
use lib.Arith.{digits_lt}
use Rattle.bits.specs.Bit.{bit, is_set, number}
use Rattle.bits.proofs.Bits.{bit-lt, bit-ext, bit-above, bit-of-zero, number-below, bit-number}
use Rattle.bits.proofs.Numbers.{digit-is_set}
use Rattle.bits.proofs.Constants.{bit-ones, bit-complement}
use Rattle.bits.proofs.Shifts.{bit-div, bit-low, bit_high}

pub T-ext : (a b : Bool) → (T a → T b) → (T b → T a) → a ≡ b
T-ext true true f g = refl
T-ext true false f g = absurd (f tt)
T-ext false true f g = absurd (g tt)
T-ext false false f g = refl

pub bit-of : (w n : ℕ) (f : ℕ → ℕ) (k : ℕ) → k < w → bit (number w (λ x. is_set n (f x))) k ≡ bit n (f k)
bit-of w n f k l = bit-number w (λ x. is_set n (f x)) k l ∙ digit-is_set n (f k)

-- ---- the top bit, i times above a number of w bits

times-ones-lt : (b i : ℕ) → b < 2 → b * (2 ^ i - 1) < 2 ^ i
times-ones-lt zero i l = omega (arith, pow_pos i)
times-ones-lt (suc zero) i l = omega (arith, pow_pos i)
times-ones-lt (suc (suc b)) i l = absurd (omega arith)

times-ones-bit : (b i k : ℕ) → b < 2 → k < i → bit (b * (2 ^ i - 1)) k ≡ b
times-ones-bit zero i k l m = ap (λ (x : ℕ). bit x k) (zero-mul (2 ^ i - 1)) ∙ bit-of-zero k
times-ones-bit (suc zero) i k l m = ap (λ (x : ℕ). bit x k) (one-mul (2 ^ i - 1)) ∙ bit-ones i k m
times-ones-bit (suc (suc b)) i k l m = absurd (omega arith)

pub sign_extended : (i w a : ℕ) → 1 ≤ w → a < 2 ^ w → number (i + w) (λ k. is_set a (min k (w - 1))) ≡ bit a (w - 1) * (2 ^ i - 1) * 2 ^ w + a
sign_extended i w a l h =
    bit-ext (i + w) _ joined (number-below (i + w) _)
    (subst (λ (m : ℕ). joined < m) (sym (pow-add 2 i w)) (digits_lt (times-ones-lt top i (bit-lt a (w - 1))) h))
    (λ k m. bit-of (i + w) a (λ x. min x (w - 1)) k m ∙ same k m)
  where
    top : ℕ
    top = bit a (w - 1)

    joined : ℕ
    joined = top * (2 ^ i - 1) * 2 ^ w + a

    same : (k : ℕ) → k < i + w → bit a (min k (w - 1)) ≡ bit joined k
    same k m =
        elim (dec_lt k w) [
          | yes j ↦
              let e : min k (w - 1) ≡ k = omega arith in
              ap (bit a) e ∙ sym (bit-low (top * (2 ^ i - 1)) w a k j)
          | no j ↦
              let e : min k (w - 1) ≡ w - 1 = omega arith in
              let d : k - w + w ≡ k = omega arith in
              ap (bit a) e
              ∙ sym (times-ones-bit top i (k - w) (bit-lt a (w - 1)) (omega arith))
              ∙ sym (bit_high (top * (2 ^ i - 1)) w a (k - w) h)
              ∙ ap (bit joined) d
        ]

-- ---- a number of w bits moved down by p, with the top bit above it

-- bit k of it: one of the bits of a, or the top bit
shifted-bit : (w p a k x : ℕ) → 1 ≤ w → (k + p < w → bit a (k + p) ≡ x) → (w ≤ k + p → bit a (w - 1) ≡ x) → bit a (min (k + p) (w - 1)) ≡ x
shifted-bit w p a k x l f g =
    elim (dec_lt (k + p) w) [
      | yes j ↦ (let e : min (k + p) (w - 1) ≡ k + p = omega arith in ap (bit a) e ∙ f j)
      | no j ↦ (let e : min (k + p) (w - 1) ≡ w - 1 = omega arith in ap (bit a) e ∙ g (omega arith))
    ]

shifted-lt : (w p a : ℕ) → a < 2 ^ w → a / 2 ^ p < 2 ^ w
shifted-lt w p a h = lt_of_le_of_lt (shr_le a p) h

pub shifted-zero : (w p a : ℕ) → 1 ≤ w → a < 2 ^ w → bit a (w - 1) ≡ 0 → number w (λ k. is_set a (min (k + p) (w - 1))) ≡ a / 2 ^ p
shifted-zero w p a l h e =
    bit-ext w _ (a / 2 ^ p) (number-below w _) (shifted-lt w p a h)
    (λ k m.
    bit-of w a (λ x. min (x + p) (w - 1)) k m
    ∙ shifted-bit w p a k (bit a (k + p)) l (λ j. refl) (λ j. e ∙ sym (bit-above w a (k + p) h j))
    ∙ sym (bit-div a p k))

pub shifted_one : (w p a : ℕ) → 1 ≤ w → a < 2 ^ w → bit a (w - 1) ≡ 1 → number w (λ k. is_set a (min (k + p) (w - 1))) ≡ 2 ^ w - 1 - (2 ^ w - 1 - a) / 2 ^ p
shifted_one w p a l h e =
    bit-ext w _ (2 ^ w - 1 - c / 2 ^ p) (number-below w _) (ones_sub-lt w (c / 2 ^ p))
    (λ k m.
    bit-of w a (λ x. min (x + p) (w - 1)) k m
    ∙ shifted-bit w p a k (1 - bit c (k + p)) l
    (λ j. omega (arith, bit-complement w a (k + p) h j, bit-lt a (k + p)))
    (λ j. omega (arith, e, bit-above w c (k + p) (ones_sub-lt w a) j))
    ∙ ap (λ (x : ℕ). 1 - x) (sym (bit-div c p k))
    ∙ sym (bit-complement w (c / 2 ^ p) k (shifted-lt w p c (ones_sub-lt w a)) m))
  where
    c : ℕ
    c = 2 ^ w - 1 - a
