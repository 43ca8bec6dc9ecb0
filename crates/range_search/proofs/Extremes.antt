-- The smallest and the largest number below a bound that passes a test are these. Assumes nothing.
--   Passing n p m   m is below n and passes p
use mathlib.Core.Path.{◌≡◌, subst}
use mathlib.Core.Bool.{Bool, true, false, cond}
use Prim.Native.Nat.{ℕ, zero, suc, ◌<◌}
use native.Mathlib.Decide.{ℕ_discrete}
use native.Mathlib.Omega.{arith}
use lib.Dec.{T}
use Rattle.bits.specs.Below.{some_below}
use Rattle.bits.proofs.Below.{some_below-intro, some_below-elim}
use Rattle.range_search.specs.Extremes.{Least, Greatest, smallest_below, largest_below}

pub record Passing (n : ℕ) (p : ℕ → Bool) (m : ℕ) : Type 0 where
  pub below : m < n
  pub passes : T (p m)

-- one that passes below n + 1 is n or lies below n
last : (n : ℕ) (p : ℕ → Bool) (m : ℕ) → Passing (suc n) p m → (T (p n) → ⊥) → Passing n p m
last n p m P h =
    elim (ℕ_discrete m n) [
      | yes e ↦ absurd (h (subst (λ (x : ℕ). T (p x)) e P.passes))
      | no e ↦ (let l = P.below in record { below = omega arith; passes = P.passes })
    ]

pub smallest-below : (n : ℕ) (p : ℕ → Bool) (k : ℕ) → Passing n p k → Least (Passing n p) (smallest_below n p)
unfolding smallest_below
smallest-below zero p k P = absurd (let l = P.below in omega arith)
smallest-below (suc n) p k P =
    go (some_below n p) (λ t. let (j, l, u) = some_below-elim n p t in smallest-below n p j (record { below = l; passes = u })) (λ j Q. some_below-intro n p j Q.below Q.passes)
  where
    go : (b : Bool) → (T b → Least (Passing n p) (smallest_below n p)) → ((j : ℕ) → Passing n p j → T b) → Least (Passing (suc n) p) (cond b (smallest_below n p) n)
    go true s i =
        let S = s tt in
        let l = S.is_inside.below in
        record {
          is_inside = record { below = omega arith; passes = S.is_inside.passes };
          least = λ j Q. elim (ℕ_discrete j n) [ yes e ↦ omega arith | no e ↦ S.least j (let h = Q.below in record { below = omega arith; passes = Q.passes }) ];
        }
    go false s i =
        let only : (j : ℕ) → Passing (suc n) p j → j ≡ n = λ j Q. elim (ℕ_discrete j n) [ yes e ↦ e | no e ↦ absurd (i j (let h = Q.below in record { below = omega arith; passes = Q.passes })) ] in
        record {
          is_inside = record { below = omega arith; passes = subst (λ (x : ℕ). T (p x)) (only k P) P.passes };
          least = λ j Q. let e = only j Q in omega arith;
        }

pub largest-below : (n : ℕ) (p : ℕ → Bool) (k : ℕ) → Passing n p k → Greatest (Passing n p) (largest_below n p)
unfolding largest_below
largest-below zero p k P = absurd (let l = P.below in omega arith)
largest-below (suc n) p k P = go (p n) (λ t. t) (λ t. t) (λ Q. largest-below n p k Q)
  where
    go : (b : Bool) → (T b → T (p n)) → (T (p n) → T b) → (Passing n p k → Greatest (Passing n p) (largest_below n p)) → Greatest (Passing (suc n) p) (cond b n (largest_below n p))
    go true i o s = record { is_inside = record { below = omega arith; passes = i tt }; greatest = λ j Q. let l = Q.below in omega arith }
    go false i o s =
        let S = s (last n p k P o) in
        let l = S.is_inside.below in
        record {
          is_inside = record { below = omega arith; passes = S.is_inside.passes };
          greatest = λ j Q. S.greatest j (last n p j Q o);
        }
