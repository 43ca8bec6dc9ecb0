-- 2 ^ i times a number, below and in column k of a long multiplication. Assumes nothing.
use mathlib.Core.Path.{◌≡◌, sym, ap, ap₂, ◌∙◌, subst}
use Prim.Native.Nat.{ℕ, zero, suc, ◌+◌, ◌-◌, ◌*◌, ◌/◌, ◌%◌, ◌^◌, ◌<◌}
use native.Mathlib.Nat.{mod-lt, mod-one, pow-suc, mul-lt-mul_of_pos_left}
use native.Mathlib.Omega.{arith}
use lib.Pow.{pow_pos, pow-add, split}
use Rattle.bits.specs.Bit.{bit}
use Rattle.bits.proofs.Shifts.{mod-pow-suc}
use Rattle.products.specs.ColumnSum.{sum}
use Rattle.products.specs.Factors.{low_row}

-- three parts: above bit k, bit k, below it
pub parts : (n k : ℕ) → n ≡ n / 2 ^ suc k * (2 ^ k * 2) + (bit n k * 2 ^ k + n % 2 ^ k)
parts n k = sym (split n (suc k)) ∙ ap₂ (λ (x y : ℕ). n / 2 ^ suc k * x + y) (pow-suc 2 k) (mod-pow-suc n k)

power : (k i m : ℕ) → i + m ≡ k → 2 ^ i * 2 ^ m ≡ 2 ^ k
power k i m e = sym (pow-add 2 i m) ∙ ap (λ (x : ℕ). 2 ^ x) e

-- a row modulo 2 ^ suc k: below column k, in it, beyond it
pub row-parts : (k i m b : ℕ) → i + m ≡ k → 2 ^ i * b ≡ 2 ^ i * (b % 2 ^ m) + 2 ^ k * bit b m + 2 ^ k * 2 * (b / 2 ^ suc m)
row-parts k i m b e =
    ap (λ (x : ℕ). 2 ^ i * x) (parts b m)
    ∙ algebra (2 ^ i) (2 ^ m) (b / 2 ^ suc m) (bit b m) (b % 2 ^ m)
    ∙ ap (λ (x : ℕ). 2 ^ i * (b % 2 ^ m) + x * bit b m + x * 2 * (b / 2 ^ suc m)) (power k i m e)
  where
    algebra : (i m q s r : ℕ) → i * (q * (m * 2) + (s * m + r)) ≡ i * r + i * m * s + i * m * 2 * q
    algebra i m q s r = omega arith

pub row_lt : (k i m b : ℕ) → i + m ≡ k → 2 ^ i * (b % 2 ^ m) < 2 ^ k
row_lt k i m b e =
    subst (λ (x : ℕ). 2 ^ i * (b % 2 ^ m) < x) (power k i m e) (mul-lt-mul_of_pos_left (mod-lt b (pow_pos m)) (pow_pos i))

-- ---- the same for `low_row`

pub low-row-lt : (k i b : ℕ) → i < suc k → low_row k i b < 2 ^ k
unfolding low_row
low-row-lt k i b h = row_lt k i (k - i) b (omega arith)

-- the terms of a row (equation 48 of document 002)
pub row-terms : (i s b m : ℕ) → sum m (λ j. 2 ^ (i + j) * (s * bit b j)) ≡ s * (2 ^ i * (b % 2 ^ m))
unfolding sum
row-terms i s b zero = omega (arith, ap (λ (x : ℕ). s * (2 ^ i * x)) (mod-one b))
row-terms i s b (suc m) =
    omega (
      arith,
      row-terms i s b m,
      ap (λ (x : ℕ). s * (2 ^ i * x)) (mod-pow-suc b m),
      ap (λ (x : ℕ). x * (s * bit b m)) (pow-add 2 i m),
    )
