-- The bits of a number in the other order, for every width. Assumes nothing.
use mathlib.Core.Path.{◌≡◌, sym, ap, subst, ◌∙◌}
use Prim.Native.Nat.{ℕ, ◌+◌, ◌-◌, ◌*◌, ◌/◌, ◌%◌, ◌^◌, ◌≤◌, ◌<◌}
use native.Mathlib.Decide.{dec_lt}
use native.Mathlib.Omega.{arith}
use lib.Pow.{pow-add, high}
use lib.Arith.{digits_lt}
use Rattle.bits.specs.Bit.{bit}
use Rattle.bits.specs.Reversed.{reversed}
use Rattle.bits.proofs.Bits.{bit-ext, number-below, bit-number}
use Rattle.bits.proofs.Shifts.{bit-div, bit-low, bit_high, bit-mod}
use Rattle.bits.proofs.Numbers.{digit-is_set, is_set-same, number-ext}

pub reversed-below : (w n : ℕ) → reversed w n < 2 ^ w
unfolding reversed
reversed-below w n = number-below w _

pub bit-reversed : (w n k : ℕ) → k < w → bit (reversed w n) k ≡ bit n (w - 1 - k)
unfolding reversed
bit-reversed w n k l = bit-number w _ k l ∙ digit-is_set n (w - 1 - k)

-- only the w lowest bits count
pub reversed-mod : (w n : ℕ) → reversed w (n % 2 ^ w) ≡ reversed w n
unfolding reversed
reversed-mod w n =
    number-ext w _ _ (λ k l. is_set-same (n % 2 ^ w) (w - 1 - k) n (w - 1 - k) (bit-mod n w (w - 1 - k) (omega arith)))

-- the b lowest bits go to the top
pub reversed-cat : (b a n : ℕ) → reversed (b + a) n ≡ reversed b n * 2 ^ a + reversed a (n / 2 ^ b)
reversed-cat b a n = bit-ext (b + a) (reversed (b + a) n) joined (reversed-below (b + a) n) below same
  where
    joined : ℕ
    joined = reversed b n * 2 ^ a + reversed a (n / 2 ^ b)

    below : joined < 2 ^ (b + a)
    below = subst (λ (m : ℕ). joined < m) (sym (pow-add 2 b a)) (digits_lt (reversed-below b n) (reversed-below a (n / 2 ^ b)))

    low : (k : ℕ) → k < a → bit n (b + a - 1 - k) ≡ bit joined k
    low k l =
        let e : b + a - 1 - k ≡ a - 1 - k + b = omega arith in
        ap (bit n) e
        ∙ sym (bit-div n b (a - 1 - k))
        ∙ sym (bit-reversed a (n / 2 ^ b) k l)
        ∙ sym (bit-low (reversed b n) a (reversed a (n / 2 ^ b)) k l)

    high : (j : ℕ) → j < b → bit n (b - 1 - j) ≡ bit joined (j + a)
    high j l = sym (bit-reversed b n j l) ∙ sym (bit_high (reversed b n) a (reversed a (n / 2 ^ b)) j (reversed-below a (n / 2 ^ b)))

    same : (k : ℕ) → k < b + a → bit (reversed (b + a) n) k ≡ bit joined k
    same k l =
        bit-reversed (b + a) n k l
        ∙ elim (dec_lt k a) [
          | yes h ↦ low k h
          | no h ↦
              let e : b + a - 1 - k ≡ b - 1 - (k - a) = omega arith in
              let d : k - a + a ≡ k = omega arith in
              ap (bit n) e ∙ high (k - a) (omega arith) ∙ ap (bit joined) d
        ]

-- a reversed word, shifted to the right, has the lowest bits reversed (document 002, equation 47)
pub reversed-shr : (v w x : ℕ) → w ≤ v → reversed v x / 2 ^ (v - w) ≡ reversed w x
reversed-shr v w x h =
    let e : v ≡ w + (v - w) = omega arith in
    ap (λ (n : ℕ). reversed n x / 2 ^ (v - w)) e
    ∙ ap (λ (n : ℕ). n / 2 ^ (v - w)) (reversed-cat w (v - w) x)
    ∙ high (reversed w x) (v - w) (reversed-below (v - w) (x / 2 ^ w))
