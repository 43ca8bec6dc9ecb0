-- Properties along lists one after another, and along lists made by counting up: shown of each part, and found for one. Assumes nothing.
use mathlib.Core.Path.{◌≡◌, refl, ap, ap₂, subst}
use mathlib.Core.List.{List, [], ◌∷◌, ◌++◌, map}
use Prim.Native.Nat.{ℕ, zero, suc, ◌+◌, ◌≤◌, ◌<◌}
use native.Mathlib.Decide.{ℕ_discrete}
use native.Mathlib.Omega.{arith}
use Rattle.bits.specs.Counted.{listed, rising}
use Rattle.vectors.specs.Lists.{All}

module _ {A : Type 0} (P : A → Type 0) where
  pub all_append : (l r : List A) → All P l → All P r → All P (l ++ r)
  all_append [] r p q = q
  all_append (a ∷ l) r p q = (p.0, all_append l r p.1 q)

  pub all_left : (l r : List A) → All P (l ++ r) → All P l
  all_left [] r p = tt
  all_left (a ∷ l) r p = (p.0, all_left l r p.1)

  pub all_right : (l r : List A) → All P (l ++ r) → All P r
  all_right [] r p = p
  all_right (a ∷ l) r p = all_right l r p.1

  pub listed-all : (f : ℕ → A) (i n : ℕ) → ((j : ℕ) → i ≤ j → j < i + n → P (f j)) → All P (listed f i n)
  unfolding listed
  listed-all f i zero h = tt
  listed-all f i (suc n) h = (h i (omega arith) (omega arith), listed-all f (suc i) n (λ j l u. h j (omega arith) (omega arith)))

  pub all_listed : (f : ℕ → A) (i n : ℕ) → All P (listed f i n) → (j : ℕ) → i ≤ j → j < i + n → P (f j)
  unfolding listed
  all_listed f i zero p j l u = absurd (omega arith)
  all_listed f i (suc n) p j l u =
      elim (ℕ_discrete i j) [
        | yes e ↦ subst (λ (x : ℕ). P (f x)) e p.0
        | no d ↦ all_listed f (suc i) n p.1 j (omega arith) (omega arith)
      ]

  pub rising-all : (f : ℕ → List A) (i n : ℕ) → ((j : ℕ) → j < i + n → All P (f j)) → All P (rising f i n)
  unfolding rising
  rising-all f i zero h = tt
  rising-all f i (suc n) h = all_append (f i) (rising f (suc i) n) (h i (omega arith)) (rising-all f (suc i) n (λ j l. h j (omega arith)))

  pub all-rising : (f : ℕ → List A) (i n : ℕ) → All P (rising f i n) → (j : ℕ) → i ≤ j → j < i + n → All P (f j)
  unfolding rising
  all-rising f i zero p j l u = absurd (omega arith)
  all-rising f i (suc n) p j l u =
      elim (ℕ_discrete i j) [
        | yes e ↦ subst (λ (x : ℕ). All P (f x)) e (all_left (f i) (rising f (suc i) n) p)
        | no d ↦ all-rising f (suc i) n (all_right (f i) (rising f (suc i) n) p) j (omega arith) (omega arith)
      ]

-- ---- lists made by counting up

-- of two functions that agree on the numbers counted
pub listed-ext : {A : Type 0} (f g : ℕ → A) (i n : ℕ) → ((j : ℕ) → i ≤ j → j < i + n → f j ≡ g j) → listed f i n ≡ listed g i n
unfolding listed
listed-ext f g i zero h = refl
listed-ext {A} f g i (suc n) h = ap₂ {C = List A} ◌∷◌ (h i (omega arith) (omega arith)) (listed-ext f g (suc i) n (λ j l u. h j (omega arith) (omega arith)))

pub listed-map : {A B : Type 0} (g : A → B) (f : ℕ → A) (i n : ℕ) → map g (listed f i n) ≡ listed (λ j. g (f j)) i n
unfolding listed
listed-map g f i zero = refl
listed-map {B = B} g f i (suc n) = ap {B = List B} (λ (r : List B). g (f i) ∷ r) (listed-map g f (suc i) n)

-- counted from 0, or from the base on
pub listed-from : {A : Type 0} (f : ℕ → A) (base n : ℕ) → listed (λ i. f (base + i)) 0 n ≡ listed f base n
unfolding listed
listed-from {A} f base n = go 0 base n (omega arith)
  where
    go : (i b n : ℕ) → base + i ≡ b → listed (λ i. f (base + i)) i n ≡ listed f b n
    go i b zero e = refl
    go i b (suc n) e = ap₂ {C = List A} ◌∷◌ (ap f e) (go (suc i) (suc b) n (omega arith))
