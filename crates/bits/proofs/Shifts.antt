-- Laws of the bits of shifted, cut and concatenated numbers, for every width. Assumes nothing.
--   bit-div, bit-mul-low, bit-mul-high     a number shifted to the right and to the left
--   bit-low, bit_high                      two numbers concatenated, the low one of w bits
--   bit-mod, bit-mod-above, bit-same-low   a number cut to w bits
--   mod-pow-suc, top_split                 a number of w + 1 bits is its top bit and the rest
--   top_one, top-zero                      the top bit tells whether the number is at least 2 ^ w
use mathlib.Core.Path.{◌≡◌, sym, ap, ◌∙◌}
use Prim.Native.Nat.{ℕ, zero, suc, ◌+◌, ◌-◌, ◌*◌, ◌/◌, ◌%◌, ◌^◌, ◌≤◌, ◌<◌}
use native.Mathlib.Nat.{add_comm, add-zero, mul_assoc, mul-add-mod_self_right, mod-lt, mod-eq_of_lt, one-mul, zero-mul}
use native.Mathlib.Numerals.{one-add}
use native.Mathlib.Omega.{arith}
use lib.Pow.{pow-add, pow_pos, shr-shr, shl-shr, split, high, field, mod-pow-add}
use Rattle.bits.specs.Bit.{bit}
use Rattle.bits.proofs.Bits.{bit-lt, bit-above, bit-of-zero}

pub bit-div : (n p k : ℕ) → bit (n / 2 ^ p) k ≡ bit n (k + p)
unfolding bit
bit-div n p k = ap (λ (x : ℕ). x % 2) (shr-shr n p k) ∙ ap (λ (x : ℕ). n / 2 ^ x % 2) (add_comm p k)

-- a bit below w depends on what stands below w only
pub bit-low : (q w r k : ℕ) → k < w → bit (q * 2 ^ w + r) k ≡ bit r k
unfolding bit
bit-low q w r k h =
    let j = w - (1 + k) in
    let e : w ≡ j + (1 + k) = omega arith in
    let s : q * 2 ^ w ≡ q * 2 ^ j * 2 ^ (1 + k) =
    ap (λ (n : ℕ). q * 2 ^ n) e ∙ ap (λ (n : ℕ). q * n) (pow-add 2 j (1 + k)) ∙ sym (mul_assoc q (2 ^ j) (2 ^ (1 + k))) in
    sym (field (q * 2 ^ w + r) 1 k)
    ∙ ap (λ (n : ℕ). (n + r) % 2 ^ (1 + k) / 2 ^ k) s
    ∙ ap (λ (n : ℕ). n / 2 ^ k) (mul-add-mod_self_right (q * 2 ^ j) (2 ^ (1 + k)) r)
    ∙ field r 1 k

pub bit_high : (q w r k : ℕ) → r < 2 ^ w → bit (q * 2 ^ w + r) (k + w) ≡ bit q k
bit_high q w r k h = sym (bit-div (q * 2 ^ w + r) w k) ∙ ap (λ (x : ℕ). bit x k) (high q w h)

pub bit-mod : (n w k : ℕ) → k < w → bit (n % 2 ^ w) k ≡ bit n k
bit-mod n w k h = sym (bit-low (n / 2 ^ w) w (n % 2 ^ w) k h) ∙ ap (λ (x : ℕ). bit x k) (split n w)

-- numbers that are equal modulo 2 ^ w have the same bits below w
pub bit-same-low : (m n w k : ℕ) → k < w → m % 2 ^ w ≡ n % 2 ^ w → bit m k ≡ bit n k
bit-same-low m n w k h e = sym (bit-mod m w k h) ∙ ap (λ (x : ℕ). bit x k) e ∙ bit-mod n w k h

pub bit-mod-above : (n w k : ℕ) → w ≤ k → bit (n % 2 ^ w) k ≡ 0
bit-mod-above n w k l = bit-above w (n % 2 ^ w) k (mod-lt n (pow_pos w)) l

pub bit-mul-low : (n p k : ℕ) → k < p → bit (n * 2 ^ p) k ≡ 0
bit-mul-low n p k h = ap (λ (x : ℕ). bit x k) (sym (add-zero (n * 2 ^ p))) ∙ bit-low n p 0 k h ∙ bit-of-zero k

pub bit-mul-high : (n p k : ℕ) → bit (n * 2 ^ p) (k + p) ≡ bit n k
bit-mul-high n p k = sym (bit-div (n * 2 ^ p) p k) ∙ ap (λ (x : ℕ). bit x k) (shl-shr n p)

-- ---- the top bit

pub mod-pow-suc : (n w : ℕ) → n % 2 ^ suc w ≡ bit n w * 2 ^ w + n % 2 ^ w
unfolding bit
mod-pow-suc n w = ap (λ (x : ℕ). n % 2 ^ x) (sym (one-add w)) ∙ mod-pow-add n 1 w

pub top_split : (n w : ℕ) → n < 2 ^ suc w → n ≡ bit n w * 2 ^ w + n % 2 ^ w
top_split n w h = sym (mod-eq_of_lt h) ∙ mod-pow-suc n w

-- the top bit is 1 exactly if the number is at least 2 ^ w
pub top_one : (n w : ℕ) → n < 2 ^ suc w → 2 ^ w ≤ n → bit n w ≡ 1
top_one n w h l = go (bit n w) (bit-lt n w) (top_split n w h)
  where
    go : (b : ℕ) → b < 2 → n ≡ b * 2 ^ w + n % 2 ^ w → b ≡ 1
    go zero c e = absurd (omega (arith, mod-lt n (pow_pos w), one-mul (2 ^ w)))
    go (suc b) c e = omega arith

pub top-zero : (n w : ℕ) → n < 2 ^ suc w → bit n w ≡ 0 → n < 2 ^ w
top-zero n w h e = omega (arith, top_split n w h, ap (λ (x : ℕ). x * 2 ^ w) e, zero-mul (2 ^ w), mod-lt n (pow_pos w))
