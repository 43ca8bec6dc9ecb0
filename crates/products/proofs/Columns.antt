-- The two parts of the column sum: by rows, the same from either factor, and what they say of bit k of the product. Assumes nothing.
--   terms-by-rows, pairs-by-rows   a sum over the rows of the long multiplication (equation 48)
--   product-parts, product-bit     a * b is the two parts, up to a multiple of 2 ^ (k + 1)
--   terms-swap, pairs-swap         the factors exchanged
--   terms-bits, pairs-bits         only the bits up to k count
use mathlib.Core.Path.{◌≡◌, refl, sym, ap, ap₂, ◌∙◌}
use Prim.Native.Nat.{ℕ, zero, suc, ◌+◌, ◌-◌, ◌*◌, ◌/◌, ◌%◌, ◌^◌, ◌≤◌}
use native.Mathlib.Nat.{mod-one, sub_self, add_comm, mul_comm, pow-suc, add-mul-div_right}
use native.Mathlib.Omega.{arith}
use lib.Pow.{pow_pos, split}
use Rattle.bits.specs.Bit.{bit}
use Rattle.bits.proofs.Shifts.{mod-pow-suc}
use Rattle.products.specs.ColumnSum.{sum, terms_below, one_pairs}
use Rattle.products.specs.Factors.{low_row}
use Rattle.products.proofs.Sums.{sum-cong, sum-reverse, triangle-swap}
use Rattle.products.proofs.LowRows.{row-parts, row-terms}

-- row i below the column, and in it
unfoldable pub lower : ℕ → ℕ → ℕ → ℕ → ℕ
lower k a b i = bit a i * low_row k i b

unfoldable pub pair : ℕ → ℕ → ℕ → ℕ → ℕ
pair k a b i = bit a i * bit b (k - i)

pub terms-by-rows : (k a b : ℕ) → terms_below k a b ≡ sum (suc k) (λ i. lower k a b i)
unfolding terms_below lower low_row sum
terms-by-rows k a b =
    sum-cong (λ i. sum (k - i) (λ j. 2 ^ (i + j) * (bit a i * bit b j))) (λ i. lower k a b i) k (λ i l. row-terms i (bit a i) b (k - i))
    ∙ (let z : lower k a b k ≡ 0 = last in omega arith)
  where
    last : bit a k * (2 ^ k * (b % 2 ^ (k - k))) ≡ 0
    last = omega (arith, ap (λ (x : ℕ). bit a k * (2 ^ k * x)) (ap (λ (n : ℕ). b % 2 ^ n) (sub_self k) ∙ mod-one b))

pub pairs-by-rows : (k a b : ℕ) → one_pairs k a b ≡ sum (suc k) (λ i. pair k a b i)
unfolding one_pairs pair
pairs-by-rows k a b = refl

-- ---- the product, modulo 2 ^ (k + 1)

beyond : ℕ → ℕ → ℕ → ℕ → ℕ
beyond k a b i = bit a i * (b / 2 ^ suc (k - i))

rows_step : (s I b L H t q x sp sc sz : ℕ) → x * b ≡ sp + H * sc + H * 2 * sz → I * b ≡ L + H * t + H * 2 * q
    → (s * I + x) * b ≡ (sp + s * L) + H * (sc + s * t) + H * 2 * (sz + s * q)
rows_step s I b L H t q x sp sc sz e d = omega (arith, ap (λ (y : ℕ). s * y) d)

rows : (k a b n : ℕ) → n ≤ suc k
    → a % 2 ^ n * b ≡ sum n (λ i. lower k a b i) + 2 ^ k * sum n (λ i. pair k a b i) + 2 ^ k * 2 * sum n (λ i. beyond k a b i)
unfolding sum lower low_row pair beyond
rows k a b zero h = omega (arith, ap (λ (x : ℕ). x * b) (mod-one a))
rows k a b (suc n) h =
    ap (λ (x : ℕ). x * b) (mod-pow-suc a n)
    ∙ rows_step (bit a n) (2 ^ n) b (2 ^ n * (b % 2 ^ (k - n))) (2 ^ k) (bit b (k - n)) (b / 2 ^ suc (k - n)) (a % 2 ^ n)
    (sum n (λ i. lower k a b i)) (sum n (λ i. pair k a b i)) (sum n (λ i. beyond k a b i))
    (rows k a b n (omega arith)) (row-parts k n (k - n) b (omega arith))

whole : (q N x b p c z H : ℕ) → N ≡ H * 2 → x * b ≡ p + H * c + H * 2 * z → (q * N + x) * b ≡ p + (c + (z + q * b) * 2) * H
whole q N x b p c z H e d = ap (λ (y : ℕ). (q * y + x) * b) e ∙ omega (arith, d)

pub product-parts : (k a b : ℕ) → (z : ℕ) × (a * b ≡ terms_below k a b + (one_pairs k a b + z * 2) * 2 ^ k)
product-parts k a b = (
  z + a / 2 ^ suc k * b,
  ap (λ (x : ℕ). x * b) (sym (split a (suc k)))
      ∙ whole (a / 2 ^ suc k) (2 ^ suc k) (a % 2 ^ suc k) b (sum (suc k) (λ i. lower k a b i)) (sum (suc k) (λ i. pair k a b i)) z (2 ^ k) (pow-suc 2 k)
      (rows k a b (suc k) (omega arith))
      ∙ ap₂ (λ (x y : ℕ). x + (y + (z + a / 2 ^ suc k * b) * 2) * 2 ^ k) (sym (terms-by-rows k a b)) (sym (pairs-by-rows k a b)),
)
  where
    z : ℕ
    z = sum (suc k) (λ i. beyond k a b i)

pub product-bit : (k a b : ℕ) → bit (a * b) k ≡ (terms_below k a b / 2 ^ k + one_pairs k a b) % 2
unfolding bit
product-bit k a b =
    let (z, e) = product-parts k a b in
    let d : a * b / 2 ^ k ≡ terms_below k a b / 2 ^ k + (one_pairs k a b + z * 2) =
    ap (λ (x : ℕ). x / 2 ^ k) e ∙ add-mul-div_right (terms_below k a b) (one_pairs k a b + z * 2) (pow_pos k) in
    omega arith

-- ---- the factors exchanged

pub terms-swap : (k a b : ℕ) → terms_below k a b ≡ terms_below k b a
unfolding terms_below
terms-swap k a b =
    triangle-swap (λ i j. 2 ^ (i + j) * (bit a i * bit b j)) k
    ∙ sum-cong (λ i. sum (k - i) (λ j. 2 ^ (j + i) * (bit a j * bit b i))) (λ i. sum (k - i) (λ j. 2 ^ (i + j) * (bit b i * bit a j))) k
    (λ i l. sum-cong (λ j. 2 ^ (j + i) * (bit a j * bit b i)) (λ j. 2 ^ (i + j) * (bit b i * bit a j)) (k - i)
    (λ j m. ap₂ (λ (x y : ℕ). 2 ^ x * y) (add_comm j i) (mul_comm (bit a j) (bit b i))))

pub pairs-swap : (k a b : ℕ) → one_pairs k a b ≡ one_pairs k b a
unfolding one_pairs
pairs-swap k a b =
    sum-reverse (λ i. bit a i * bit b (k - i)) k
    ∙ sum-cong (λ i. bit a (k - i) * bit b (k - (k - i))) (λ i. bit b i * bit a (k - i)) (suc k)
    (λ i l.
    let e : k - (k - i) ≡ i = omega arith in
    ap (λ (x : ℕ). bit a (k - i) * bit b x) e ∙ mul_comm (bit a (k - i)) (bit b i))

-- ---- only the bits up to k count

module _ (k a c b : ℕ) (h : (j : ℕ) → j ≤ k → bit a j ≡ bit c j) where
  pub terms-bits : terms_below k a b ≡ terms_below k c b
  unfolding lower
  terms-bits =
      terms-by-rows k a b
      ∙ sum-cong (λ i. lower k a b i) (λ i. lower k c b i) (suc k) (λ i l. ap (λ (x : ℕ). x * low_row k i b) (h i (omega arith)))
      ∙ sym (terms-by-rows k c b)

  pub pairs-bits : one_pairs k a b ≡ one_pairs k c b
  unfolding one_pairs
  pairs-bits =
      sum-cong (λ i. bit a i * bit b (k - i)) (λ i. bit c i * bit b (k - i)) (suc k) (λ i l. ap (λ (x : ℕ). x * bit b (k - i)) (h i (omega arith)))
