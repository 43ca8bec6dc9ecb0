-- The bits of a complement, of a width's mask, of a power of 2 and of a bit at a place, for every width. Assumes nothing.
--   bit-complement                        2 ^ w - 1 - a
--   bit-ones, bit-ones-above, ones_shr    2 ^ w - 1
--   bit-pow, bit-pow-other                2 ^ j
--   bit-placed, bit-placed-other          a bit at place j
use mathlib.Core.Path.{◌≡◌, sym, ap, ◌∙◌}
use mathlib.Core.Logic.{◌≢◌}
use Prim.Native.Nat.{ℕ, zero, suc, ◌+◌, ◌-◌, ◌*◌, ◌/◌, ◌%◌, ◌^◌, ◌≤◌, ◌<◌}
use native.Mathlib.Nat.{sub-zero, div_self, zero-mul, one-mul, pow-suc, le_of_suc-le-suc, not-suc-le-zero, lt-suc_self}
use native.Mathlib.Decide.{dec_lt}
use native.Mathlib.Omega.{arith}
use lib.Pow.{pow_pos, pow-lt, ones_lt, ones_split, high}
use lib.Arith.{digits_div, digits_mod}
use Rattle.bits.specs.Bit.{bit}
use Rattle.bits.proofs.Bits.{bit-zero, bit-suc, bit-above, bit-of-zero, half-below}
use Rattle.bits.proofs.Shifts.{bit-mul-low}

complement-step : (w a : ℕ) → a < 2 ^ suc w → 2 ^ suc w - 1 - a ≡ (2 ^ w - 1 - a / 2) * 2 + (1 - a % 2)
complement-step w a h = omega (arith, pow-suc 2 w, half-below w a h)

pub bit-complement : (w a k : ℕ) → a < 2 ^ w → k < w → bit (2 ^ w - 1 - a) k ≡ 1 - bit a k
bit-complement zero a k h l = absurd (not-suc-le-zero l)
bit-complement (suc w) a zero h l =
    ap (λ (x : ℕ). bit x 0) (complement-step w a h)
    ∙ bit-zero _
    ∙ digits_mod (2 ^ w - 1 - a / 2) (omega arith)
    ∙ ap (λ (x : ℕ). 1 - x) (sym (bit-zero a))
bit-complement (suc w) a (suc k) h l =
    ap (λ (x : ℕ). bit x (suc k)) (complement-step w a h)
    ∙ bit-suc _ k
    ∙ ap (λ (x : ℕ). bit x k) (digits_div (2 ^ w - 1 - a / 2) (omega arith))
    ∙ bit-complement w (a / 2) k (half-below w a h) (le_of_suc-le-suc l)
    ∙ ap (λ (x : ℕ). 1 - x) (sym (bit-suc a k))

pub bit-ones : (w k : ℕ) → k < w → bit (2 ^ w - 1) k ≡ 1
bit-ones w k l =
    ap (λ (x : ℕ). bit x k) (sym (sub-zero (2 ^ w - 1))) ∙ bit-complement w 0 k (pow_pos w) l ∙ ap (λ (x : ℕ). 1 - x) (bit-of-zero k)

pub bit-ones-above : (w k : ℕ) → w ≤ k → bit (2 ^ w - 1) k ≡ 0
bit-ones-above w k l = bit-above w (2 ^ w - 1) k (ones_lt w) l

-- the mask of a wider word, shifted to the right
pub ones_shr : (w v : ℕ) → w ≤ v → (2 ^ v - 1) / 2 ^ (v - w) ≡ 2 ^ w - 1
ones_shr w v h =
    let e : v ≡ w + (v - w) = omega arith in
    ap (λ (n : ℕ). (2 ^ n - 1) / 2 ^ (v - w)) e
    ∙ ap (λ (n : ℕ). n / 2 ^ (v - w)) (ones_split w (v - w))
    ∙ high (2 ^ w - 1) (v - w) (ones_lt (v - w))

pub bit-pow : (j : ℕ) → bit (2 ^ j) j ≡ 1
unfolding bit
bit-pow j = ap (λ (x : ℕ). x % 2) (div_self (pow_pos j))

pub bit-pow-other : (j k : ℕ) → k ≢ j → bit (2 ^ j) k ≡ 0
bit-pow-other j k d =
    elim (dec_lt k j) [
      | yes l ↦ ap (λ (x : ℕ). bit x k) (sym (one-mul (2 ^ j))) ∙ bit-mul-low 1 j k l
      | no l ↦ bit-above (suc j) (2 ^ j) k (pow-lt (lt-suc_self j)) (omega arith)
    ]

pub bit-placed : (b j : ℕ) → b < 2 → bit (b * 2 ^ j) j ≡ b
bit-placed zero j h = ap (λ (n : ℕ). bit n j) (zero-mul (2 ^ j)) ∙ bit-of-zero j
bit-placed (suc zero) j h = ap (λ (n : ℕ). bit n j) (one-mul (2 ^ j)) ∙ bit-pow j
bit-placed (suc (suc b)) j h = absurd (omega arith)

pub bit-placed-other : (b j k : ℕ) → b < 2 → k ≢ j → bit (b * 2 ^ j) k ≡ 0
bit-placed-other zero j k h d = ap (λ (n : ℕ). bit n k) (zero-mul (2 ^ j)) ∙ bit-of-zero k
bit-placed-other (suc zero) j k h d = ap (λ (n : ℕ). bit n k) (one-mul (2 ^ j)) ∙ bit-pow-other j k d
bit-placed-other (suc (suc b)) j k h d = absurd (omega arith)
