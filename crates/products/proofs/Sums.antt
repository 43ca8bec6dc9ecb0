-- Laws of sums, as the column sum needs them. Assumes nothing.
--   sum-cong, sum-le, sum-add, sum-scale   term by term
--   sum-point                              terms that differ at one place
--   sum-reverse, triangle-swap             the last term first; rows or columns first
use mathlib.Core.Path.{◌≡◌, refl, sym, ap, ap₂, ◌∙◌}
use mathlib.Core.Logic.{◌≢◌}
use Prim.Native.Nat.{ℕ, zero, suc, ◌+◌, ◌-◌, ◌*◌, ◌≤◌, ◌<◌}
use native.Mathlib.Nat.{sub_self, mul-zero, mul-add}
use native.Mathlib.Decide.{ℕ_discrete}
use native.Mathlib.Omega.{arith}
use Rattle.products.specs.ColumnSum.{sum}

module _ (f g : ℕ → ℕ) where
  pub sum-cong : (n : ℕ) → ((i : ℕ) → i < n → f i ≡ g i) → sum n f ≡ sum n g
  unfolding sum
  sum-cong zero h = refl
  sum-cong (suc n) h = ap₂ (λ (x y : ℕ). x + y) (sum-cong n (λ i l. h i (omega arith))) (h n (omega arith))

  pub sum-le : (n : ℕ) → ((i : ℕ) → i < n → f i ≤ g i) → sum n f ≤ sum n g
  unfolding sum
  sum-le zero h = omega arith
  sum-le (suc n) h = omega (arith, sum-le n (λ i l. h i (omega arith)), h n (omega arith))

  pub sum-add : (n : ℕ) → sum n (λ i. f i + g i) ≡ sum n f + sum n g
  unfolding sum
  sum-add zero = refl
  sum-add (suc n) = omega (arith, sum-add n)

  pub sum-point : (n i : ℕ) → i < n → ((j : ℕ) → j < n → j ≢ i → f j ≡ g j) → sum n f + g i ≡ sum n g + f i
  unfolding sum
  sum-point zero i l h = absurd (omega arith)
  sum-point (suc n) i l h = go (ℕ_discrete n i) (λ m. sum-point n i m (λ j p o. h j (omega arith) o))
    where
      go : Dec (n ≡ i) → (i < n → sum n f + g i ≡ sum n g + f i) → sum n f + f n + g i ≡ sum n g + g n + f i
      go (yes e) ih = omega (arith, sum-cong n (λ j m. h j (omega arith) (omega arith)), ap f e, ap g e)
      go (no d) ih = omega (arith, ih (omega arith), h n (omega arith) d)

pub sum-scale : (c : ℕ) (f : ℕ → ℕ) (n : ℕ) → c * sum n f ≡ sum n (λ i. c * f i)
unfolding sum
sum-scale c f zero = mul-zero c
sum-scale c f (suc n) = mul-add c (sum n f) (f n) ∙ ap (λ (x : ℕ). x + c * f n) (sum-scale c f n)

sum-front : (f : ℕ → ℕ) (n : ℕ) → sum (suc n) f ≡ f 0 + sum n (λ i. f (suc i))
unfolding sum
sum-front f zero = omega arith
sum-front f (suc n) = omega (arith, sum-front f n)

pub sum-reverse : (f : ℕ → ℕ) (k : ℕ) → sum (suc k) f ≡ sum (suc k) (λ i. f (k - i))
unfolding sum
sum-reverse f zero = refl
sum-reverse f (suc k) =
    sum-front f (suc k)
    ∙ ap (λ (x : ℕ). f 0 + x)
    (sum-reverse (λ i. f (suc i)) k
    ∙ sum-cong (λ i. f (suc (k - i))) (λ i. f (suc k - i)) (suc k) (λ i l. ap f (omega arith)))
    ∙ omega (arith, ap f (sub_self (suc k)))

-- ---- sums over i + j < k

-- the diagonal i + j = k comes last
triangle-suc : (f : ℕ → ℕ → ℕ) (k : ℕ)
    → sum (suc k) (λ i. sum (suc k - i) (f i)) ≡ sum k (λ i. sum (k - i) (f i)) + sum (suc k) (λ i. f i (k - i))
unfolding sum
triangle-suc f k =
    sum-cong (λ i. sum (suc k - i) (f i)) (λ i. sum (k - i) (f i) + f i (k - i)) (suc k)
    (λ i l. ap (λ (n : ℕ). sum n (f i)) (let e : suc k - i ≡ suc (k - i) = omega arith in e))
    ∙ sum-add (λ i. sum (k - i) (f i)) (λ i. f i (k - i)) (suc k)
    ∙ (let z : sum (k - k) (f k) ≡ 0 = ap (λ (n : ℕ). sum n (f k)) (sub_self k) in omega arith)

pub triangle-swap : (f : ℕ → ℕ → ℕ) (k : ℕ) → sum k (λ i. sum (k - i) (f i)) ≡ sum k (λ i. sum (k - i) (λ j. f j i))
unfolding sum
triangle-swap f zero = refl
triangle-swap f (suc k) =
    triangle-suc f k ∙ ap₂ (λ (x y : ℕ). x + y) (triangle-swap f k) diagonal ∙ sym (triangle-suc (λ i j. f j i) k)
  where
    diagonal : sum (suc k) (λ i. f i (k - i)) ≡ sum (suc k) (λ i. f (k - i) i)
    diagonal =
        sum-reverse (λ i. f i (k - i)) k
        ∙ sum-cong (λ i. f (k - i) (k - (k - i))) (λ i. f (k - i) i) (suc k)
        (λ i l. ap (f (k - i)) (let e : k - (k - i) ≡ i = omega arith in e))
