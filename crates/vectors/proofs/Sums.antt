-- Sums over a list: two of them compared element by element, and one against a bound. Assumes nothing.
use mathlib.Core.Bool.{Bool, true, false, not, ◌&&◌}
use mathlib.Core.List.{List, [], ◌∷◌}
use Prim.Native.Nat.{ℕ, ◌+◌, ◌*◌, ◌≤◌, ◌<◌}
use native.Mathlib.Nat.{mul-suc}
use native.Mathlib.Omega.{arith}
use lib.Dec.{T}
use lib.ListN.{length}
use Rattle.vectors.specs.Lists.{All, all_of, sum_of}

pub sum-le : {A : Type 0} (u v : A → ℕ) (l : List A) → All (λ a. u a ≤ v a) l → sum_of u l ≤ sum_of v l
sum-le u v [] h = omega arith
sum-le u v (a ∷ l) h = let r = sum-le u v l h.1 in let q = h.0 in omega arith

-- where the test fails of one element, the sum grows
pub sum_lt : {A : Type 0} (f : A → Bool) (u v : A → ℕ) (l : List A) → All (λ a. u a ≤ v a) l → All (λ a. T (not (f a)) → u a < v a) l → T (not (all_of f l)) → sum_of u l < sum_of v l
unfolding all_of
sum_lt f u v [] h k n = absurd n
sum_lt f u v (a ∷ l) h k n = go (f a) k.0 n (sum_lt f u v l h.1 k.1) (sum-le u v l h.1)
  where
    go : (b : Bool) → (T (not b) → u a < v a) → T (not (b && all_of f l)) → (T (not (all_of f l)) → sum_of u l < sum_of v l) → sum_of u l ≤ sum_of v l → u a + sum_of u l < v a + sum_of v l
    go true x y z r = let p = z y in let q = h.0 in omega arith
    go false x y z r = let p = x tt in omega arith

pub sum-most : {A : Type 0} (u : A → ℕ) (m : ℕ) (l : List A) → All (λ a. u a ≤ m) l → sum_of u l ≤ m * length l
sum-most u m [] h = omega arith
sum-most u m (a ∷ l) h = let r = sum-most u m l h.1 in let q = h.0 in let e = mul-suc m (length l) in omega arith
