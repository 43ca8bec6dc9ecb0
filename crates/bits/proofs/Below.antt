-- Laws of the tests over all numbers below a bound. Assumes nothing.
use mathlib.Core.Path.{◌≡◌, refl, sym, ap₂, subst}
use mathlib.Core.Bool.{Bool, true, false, ◌||◌}
use mathlib.Core.Logic.{inl, inr}
use Prim.Native.Nat.{ℕ, zero, suc, ◌+◌, ◌<◌}
use native.Mathlib.Nat.{eq-or-lt_of_le, le_of_suc-le-suc, not-suc-le-zero}
use native.Mathlib.Decide.{ℕ_discrete}
use native.Mathlib.Omega.{arith}
use lib.Dec.{T, not_T}
use lib.Ieee.Bits.{is_true, is_false}
use Rattle.bits.specs.Below.{some_below, all_below}
use Rattle.bits.proofs.Bools.{T_and, T-left, T-right, T-inl, T-inr, T-or}

pub some_below-intro : (n : ℕ) (p : ℕ → Bool) (k : ℕ) → k < n → T (p k) → T (some_below n p)
unfolding some_below
some_below-intro zero p k h t = absurd (not-suc-le-zero h)
some_below-intro (suc n) p k h t =
    elim (eq-or-lt_of_le (le_of_suc-le-suc h)) [
      | inl e ↦ T-inl (p n) (some_below n p) (subst (λ (x : ℕ). T (p x)) e t)
      | inr l ↦ T-inr (p n) (some_below n p) (some_below-intro n p k l t)
    ]

pub some_below-elim : (n : ℕ) (p : ℕ → Bool) → T (some_below n p) → (k : ℕ) × (k < n) × T (p k)
unfolding some_below
some_below-elim zero p t = absurd t
some_below-elim (suc n) p t =
    elim (T-or (p n) (some_below n p) t) [
      | inl h ↦ (n, omega arith, h)
      | inr h ↦ let r = some_below-elim n p h in (r.0, omega arith, r.2)
    ]

pub some_below-ext : (n : ℕ) (p q : ℕ → Bool) → ((k : ℕ) → p k ≡ q k) → some_below n p ≡ some_below n q
unfolding some_below
some_below-ext zero p q e = refl
some_below-ext (suc n) p q e = ap₂ (λ (a b : Bool). a || b) (e n) (some_below-ext n p q e)

pub all_below-intro : (n : ℕ) (p : ℕ → Bool) → ((k : ℕ) → k < n → T (p k)) → T (all_below n p)
unfolding all_below
all_below-intro zero p h = tt
all_below-intro (suc n) p h = T_and (p n) (all_below n p) (h n (omega arith)) (all_below-intro n p (λ k l. h k (omega arith)))

pub all_below-elim : (n : ℕ) (p : ℕ → Bool) → T (all_below n p) → (k : ℕ) → k < n → T (p k)
unfolding all_below
all_below-elim zero p t k h = absurd (not-suc-le-zero h)
all_below-elim (suc n) p t k h =
    elim (eq-or-lt_of_le (le_of_suc-le-suc h)) [
      | inl e ↦ subst (λ (x : ℕ). T (p x)) (sym e) (T-left (p n) (all_below n p) t)
      | inr l ↦ all_below-elim n p (T-right (p n) (all_below n p) t) k l
    ]

-- ---- for a loop that counts up, and stops at the first number that decides

pub below_next : (P : ℕ → Type 0) (i : ℕ) → ((j : ℕ) → j < i → P j) → P i → (j : ℕ) → j < i + 1 → P j
below_next P i all p j h = elim (ℕ_discrete j i) [ yes e ↦ subst P (sym e) p | no d ↦ all j (omega arith) ]

pub all_below-true : (n : ℕ) (p : ℕ → Bool) → ((k : ℕ) → k < n → p k ≡ true) → all_below n p ≡ true
all_below-true n p h = is_true (all_below n p) (all_below-intro n p (λ k l. subst T (sym (h k l)) tt))

pub all_below-false : (n : ℕ) (p : ℕ → Bool) (k : ℕ) → k < n → p k ≡ false → all_below n p ≡ false
all_below-false n p k h e = is_false (all_below n p) (not_T (all_below n p) (λ t. subst T e (all_below-elim n p t k h)))

pub some_below-true : (n : ℕ) (p : ℕ → Bool) (k : ℕ) → k < n → p k ≡ true → some_below n p ≡ true
some_below-true n p k h e = is_true (some_below n p) (some_below-intro n p k h (subst T (sym e) tt))

pub some_below-false : (n : ℕ) (p : ℕ → Bool) → ((k : ℕ) → k < n → p k ≡ false) → some_below n p ≡ false
some_below-false n p h = is_false (some_below n p) (not_T (some_below n p) (λ t. let f = some_below-elim n p t in subst T (h f.0 f.1) f.2))
