-- Bit k of a sum, by the sum of the lowest bits of both terms (01, "Sums"), for every k. Assumes nothing.
--   carry k a b   what the k lowest bits of a and b carry into bit k of a + b, 0 or 1
use mathlib.Core.Path.{◌≡◌, ap, ◌∙◌}
use Prim.Native.Nat.{ℕ, suc, ◌+◌, ◌*◌, ◌/◌, ◌%◌, ◌^◌, ◌<◌}
use native.Mathlib.Nat.{add-mod, add-mul, mod-lt, mul-add-div_right, div-lt_iff_lt-mul, lt-suc_self}
use native.Mathlib.Omega.{arith}
use lib.Pow.{pow_pos}
use Rattle.bits.specs.Bit.{bit}
use Rattle.bits.proofs.Shifts.{bit-same-low, mod-pow-suc}

unfoldable pub carry : ℕ → ℕ → ℕ → ℕ
carry k a b = (a % 2 ^ k + b % 2 ^ k) / 2 ^ k

pub carry_lt : (k a b : ℕ) → carry k a b < 2
unfolding carry
carry_lt k a b = (div-lt_iff_lt-mul (pow_pos k)).1 (omega (arith, mod-lt a (pow_pos k), mod-lt b (pow_pos k)))

-- the floor of the sum of the lowest k + 1 bits of both terms
pub sum-floor : (k a b : ℕ) → (a % 2 ^ suc k + b % 2 ^ suc k) / 2 ^ k ≡ bit a k + bit b k + carry k a b
unfolding carry
sum-floor k a b = ap (λ (x : ℕ). x / 2 ^ k) parts ∙ mul-add-div_right (pow_pos k) (bit a k + bit b k) (a % 2 ^ k + b % 2 ^ k)
  where
    parts : a % 2 ^ suc k + b % 2 ^ suc k ≡ (bit a k + bit b k) * 2 ^ k + (a % 2 ^ k + b % 2 ^ k)
    parts = omega (arith, mod-pow-suc a k, mod-pow-suc b k, add-mul (bit a k) (bit b k) (2 ^ k))

-- bit k of a sum is that floor modulo 2
pub bit-sum-floor : (a b k : ℕ) → bit (a + b) k ≡ (a % 2 ^ suc k + b % 2 ^ suc k) / 2 ^ k % 2
unfolding bit
bit-sum-floor a b k = bit-same-low (a + b) (a % 2 ^ suc k + b % 2 ^ suc k) (suc k) k (lt-suc_self k) (add-mod a b (2 ^ suc k))
