-- How the column sum changes with one bit of a factor: by at most 2 ^ k (document 002, equation 26). Assumes nothing.
--   SumLe k a b c d    the column sum at (a, b) is at most that at (c, d)
--   Reach k a b c d    the column sum at (c, d) is at most 2 ^ k above that at (a, b)
--   AgreeBut k i a c   a and c have the same bits up to k, but for bit i
use mathlib.Core.Path.{◌≡◌, sym, ap, ◌∙◌}
use mathlib.Core.Logic.{◌⊎◌, inl, inr, ◌≢◌}
use Prim.Native.Nat.{ℕ, suc, ◌+◌, ◌-◌, ◌*◌, ◌^◌, ◌≤◌}
use native.Mathlib.Nat.{mul-le-mul_left, mul-one}
use native.Mathlib.Omega.{arith}
use Rattle.bits.specs.Bit.{bit}
use Rattle.bits.proofs.Bits.{bit-lt, bit-cases}
use Rattle.products.specs.ColumnSum.{terms_below, one_pairs}
use Rattle.products.specs.Factors.{low_row}
use Rattle.products.proofs.Sums.{sum-le, sum-add, sum-scale, sum-point}
use Rattle.products.proofs.LowRows.{low-row-lt}
use Rattle.products.proofs.Columns.{lower, pair, terms-by-rows, pairs-by-rows, terms-swap, pairs-swap}

abbrev pub SumLe : ℕ → ℕ → ℕ → ℕ → ℕ → Type 0
SumLe k a b c d = terms_below k a b + 2 ^ k * one_pairs k c d ≤ terms_below k c d + 2 ^ k * one_pairs k a b

abbrev pub Reach : ℕ → ℕ → ℕ → ℕ → ℕ → Type 0
Reach k a b c d = terms_below k c d + 2 ^ k * one_pairs k a b ≤ terms_below k a b + 2 ^ k * one_pairs k c d + 2 ^ k

abbrev pub AgreeBut : ℕ → ℕ → ℕ → ℕ → Type 0
AgreeBut k i a c = (j : ℕ) → j ≤ k → j ≢ i → bit a j ≡ bit c j

pub le-swap : (k a b c d : ℕ) → SumLe k a b c d → SumLe k b a d c
le-swap k a b c d h =
    omega (arith, h, terms-swap k a b, terms-swap k c d, ap (λ (x : ℕ). 2 ^ k * x) (pairs-swap k a b), ap (λ (x : ℕ). 2 ^ k * x) (pairs-swap k c d))

pub le_trans : (k a b c d e f : ℕ) → SumLe k a b c d → SumLe k c d e f → SumLe k a b e f
le_trans k a b c d e f h g = omega arith

-- the column sum is a sum of rows, so it is compared row by row
pub le-by-rows : (k a c b : ℕ)
    → ((i : ℕ) → i ≤ k → lower k a b i + 2 ^ k * pair k c b i ≤ lower k c b i + 2 ^ k * pair k a b i) → SumLe k a b c b
le-by-rows k a c b h =
    omega (
      arith,
      sum-le (λ i. lower k a b i + 2 ^ k * pair k c b i) (λ i. lower k c b i + 2 ^ k * pair k a b i) (suc k) (λ i l. h i (omega arith)),
      sum-add (λ i. lower k a b i) (λ i. 2 ^ k * pair k c b i) (suc k),
      sum-add (λ i. lower k c b i) (λ i. 2 ^ k * pair k a b i) (suc k),
      sum-scale (2 ^ k) (λ i. pair k a b i) (suc k),
      sum-scale (2 ^ k) (λ i. pair k c b i) (suc k),
      terms-by-rows k a b,
      terms-by-rows k c b,
      ap (λ (x : ℕ). 2 ^ k * x) (pairs-by-rows k a b),
      ap (λ (x : ℕ). 2 ^ k * x) (pairs-by-rows k c b),
    )

module _ (k a c b i : ℕ) (hi : i ≤ k) (agree : AgreeBut k i a c) where
  pub point-terms : terms_below k a b + lower k c b i ≡ terms_below k c b + lower k a b i
  unfolding lower
  point-terms =
      omega (
        arith,
        sum-point (λ j. lower k a b j) (λ j. lower k c b j) (suc k) i (omega arith) (λ j l n. ap (λ (x : ℕ). x * low_row k j b) (agree j (omega arith) n)),
        terms-by-rows k a b,
        terms-by-rows k c b,
      )

  pub point-pairs : one_pairs k a b + pair k c b i ≡ one_pairs k c b + pair k a b i
  unfolding one_pairs pair
  point-pairs =
      sum-point (λ j. pair k a b j) (λ j. pair k c b j) (suc k) i (omega arith) (λ j l n. ap (λ (x : ℕ). x * bit b (k - j)) (agree j (omega arith) n))

  -- bit i from 0 to 1: its row is added, so the change is in [-2 ^ k, 2 ^ k)
  module _ (off : bit a i ≡ 0) (on : bit c i ≡ 1) where
    pub flip-terms : terms_below k c b ≡ terms_below k a b + low_row k i b
    unfolding lower
    flip-terms = omega (arith, point-terms, ap (λ (x : ℕ). x * low_row k i b) off, ap (λ (x : ℕ). x * low_row k i b) on)

    pub flip-pairs : 2 ^ k * one_pairs k c b ≡ 2 ^ k * one_pairs k a b + 2 ^ k * bit b (k - i)
    unfolding pair
    flip-pairs =
        let e : one_pairs k c b ≡ one_pairs k a b + bit b (k - i) =
        omega (arith, point-pairs, ap (λ (x : ℕ). x * bit b (k - i)) off, ap (λ (x : ℕ). x * bit b (k - i)) on) in
        omega (arith, ap (λ (x : ℕ). 2 ^ k * x) e)

    flip_up : Reach k a b c b
    flip_up = omega (arith, flip-terms, flip-pairs, low-row-lt k i b (omega arith))

    flip_down : Reach k c b a b
    flip_down =
        omega (arith, flip-terms, flip-pairs, mul-le-mul_left {m = bit b (k - i)} {n = 1} (2 ^ k) (omega (arith, bit-lt b (k - i))), mul-one (2 ^ k))

  -- bit i as before
  same-reach : bit a i ≡ bit c i → Reach k a b c b × Reach k c b a b
  unfolding lower pair
  same-reach e =
      let p : one_pairs k a b ≡ one_pairs k c b = omega (arith, point-pairs, ap (λ (x : ℕ). x * bit b (k - i)) e) in
      omega (arith, point-terms, ap (λ (x : ℕ). x * low_row k i b) e, ap (λ (x : ℕ). 2 ^ k * x) p)

-- one bit changes the column sum by at most 2 ^ k
pub flip : (k a c b i : ℕ) → i ≤ k → AgreeBut k i a c → Reach k a b c b × Reach k c b a b
flip k a c b i hi g = go (bit-cases a i) (bit-cases c i)
  where
    g' : AgreeBut k i c a
    g' j l n = sym (g j l n)

    go : (bit a i ≡ 0) ⊎ (bit a i ≡ 1) → (bit c i ≡ 0) ⊎ (bit c i ≡ 1) → Reach k a b c b × Reach k c b a b
    go (inl x) (inl y) = same-reach k a c b i hi g (x ∙ sym y)
    go (inl x) (inr y) = (flip_up k a c b i hi g x y, flip_down k a c b i hi g x y)
    go (inr x) (inl y) = (flip_down k c a b i hi g' y x, flip_up k c a b i hi g' y x)
    go (inr x) (inr y) = same-reach k a c b i hi g (x ∙ sym y)
