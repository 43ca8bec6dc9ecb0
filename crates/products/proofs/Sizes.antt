-- The numbers of the code fit: a column sum has at most 32 rows of at most 2 ^ 31, so it is at most 2 ^ 36 in size. Assumes nothing.
use Prim.Native.Nat.{ℕ, zero, suc, ◌+◌, ◌-◌, ◌*◌, ◌^◌, ◌≤◌, ◌<◌}
use native.Mathlib.Nat.{mul-le-mul}
use native.Mathlib.Omega.{arith}
use lib.Pow.{pow_mono}
use lib.Signed.{mag}
use Rattle.bits.specs.Bit.{bit}
use Rattle.bits.proofs.Bits.{bit-lt}
use Rattle.products.specs.ColumnSum.{sum, terms_below, one_pairs, column_sum}
use Rattle.products.specs.Factors.{low_row}
use Rattle.products.proofs.LowRows.{low-row-lt}
use Rattle.products.proofs.Columns.{lower, pair, terms-by-rows, pairs-by-rows}
use Rattle.products.proofs.Integers.{minus-mag}
use Rattle.products.proofs.Floors.{column-minus}

-- ---- for every k

rows-le : (k a b n : ℕ) → n ≤ suc k → sum n (λ i. lower k a b i) ≤ n * 2 ^ k
unfolding sum lower
rows-le k a b zero h = omega arith
rows-le k a b (suc n) h =
    let l : bit a n * low_row k n b ≤ 1 * 2 ^ k = mul-le-mul {n₂ = 1} (let x = bit-lt a n in omega arith) (let y = low-row-lt k n b (omega arith) in omega arith) in
    omega (arith, rows-le k a b n (omega arith))

pairs-le : (k a b n : ℕ) → sum n (λ i. pair k a b i) ≤ n
unfolding sum pair
pairs-le k a b zero = omega arith
pairs-le k a b (suc n) =
    let l : bit a n * bit b (k - n) ≤ 1 * 1 = mul-le-mul {n₂ = 1} {m₂ = 1} (let x = bit-lt a n in omega arith) (let y = bit-lt b (k - n) in omega arith) in
    omega (arith, pairs-le k a b n)

-- ---- for k below 32

half : (k : ℕ) → k < 32 → 2 ^ k ≤ 2 ^ 31
half k h = pow_mono {j = 31} (omega arith)

pub row-size : (k i b : ℕ) → i ≤ k → k < 32 → low_row k i b < 2 ^ 31
row-size k i b h l = omega (arith, low-row-lt k i b (omega arith), half k l)

pub digit-size : (k s : ℕ) → s < 2 → k < 32 → 2 ^ k * s ≤ 2 ^ 31
digit-size k s h l = mul-le-mul {n₁ = 2 ^ k} {m₁ = s} {n₂ = 2 ^ 31} {m₂ = 1} (half k l) (omega arith)

pub terms-size : (k a b : ℕ) → k < 32 → terms_below k a b ≤ 2 ^ 36
terms-size k a b l =
    omega (arith, terms-by-rows k a b, rows-le k a b (suc k) (omega arith), mul-le-mul {n₁ = suc k} {m₁ = 2 ^ k} {n₂ = 32} {m₂ = 2 ^ 31} (omega arith) (half k l))

pub pairs-size : (k a b : ℕ) → k < 32 → 2 ^ k * one_pairs k a b ≤ 2 ^ 36
pairs-size k a b l =
    mul-le-mul {n₁ = 2 ^ k} {m₁ = one_pairs k a b} {n₂ = 2 ^ 31} {m₂ = 32} (half k l) (omega (arith, pairs-by-rows k a b, pairs-le k a b (suc k)))

pub column-size : (k a b : ℕ) → k < 32 → mag (column_sum k a b) ≤ 2 ^ 36
column-size k a b l =
    let m = minus-mag (column_sum k a b) _ _ (2 ^ 36 + 1) (column-minus k a b) (omega (arith, terms-size k a b l)) (omega (arith, pairs-size k a b l)) in
    omega arith
