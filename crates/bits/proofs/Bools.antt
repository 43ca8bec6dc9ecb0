-- Laws of tests: a test that holds, `T b`, through `&&`, `||`, `not` and equality of numbers; a choice by a test. Assumes nothing.
use mathlib.Core.Path.{◌≡◌, refl, subst}
use mathlib.Core.Bool.{Bool, true, false, not, cond, ◌&&◌, ◌||◌}
use mathlib.Core.Logic.{◌⊎◌, inl, inr}
use Prim.Native.Nat.{ℕ}
use lib.Dec.{T, eqb, eqb_refl}

pub T_and : (a b : Bool) → T a → T b → T (a && b)
T_and true true p q = tt
T_and true false p q = q
T_and false b p q = p

pub T-left : (a b : Bool) → T (a && b) → T a
T-left true b p = tt
T-left false b p = p

pub T-right : (a b : Bool) → T (a && b) → T b
T-right true b p = p
T-right false b p = absurd p

pub T-inl : (a b : Bool) → T a → T (a || b)
T-inl true b p = tt
T-inl false b p = absurd p

pub T-inr : (a b : Bool) → T b → T (a || b)
T-inr true b p = tt
T-inr false b p = p

pub T-or : (a b : Bool) → T (a || b) → T a ⊎ T b
T-or true b p = inl tt
T-or false b p = inr p

pub eq→eqb : {m n : ℕ} → m ≡ n → T (eqb m n)
eq→eqb {m} e = subst (λ (x : ℕ). T (eqb m x)) e (eqb_refl m)

pub T_not-not : (a : Bool) → T (not (not a)) → T a
T_not-not true t = tt
T_not-not false t = t

pub not_not_T : (a : Bool) → T a → T (not (not a))
not_not_T true t = tt
not_not_T false t = t

pub and-true : (b : Bool) → (b && true) ≡ b
and-true true = refl
and-true false = refl

-- ---- a choice by a test

pub when_true : {A : Type 0} (b : Bool) (x y : A) → T b → cond b x y ≡ x
when_true true x y t = refl
when_true false x y t = absurd t

pub when_false : {A : Type 0} (b : Bool) (x y : A) → T (not b) → cond b x y ≡ y
when_false true x y t = absurd t
when_false false x y t = refl

-- what holds of both arms, each where it is taken, holds of the choice
pub by_cond : {A : Type 0} (P : A → Type 0) (b : Bool) (x y : A) → (T b → P x) → (T (not b) → P y) → P (cond b x y)
by_cond P true x y f g = f tt
by_cond P false x y f g = g tt

pub T-cases : {A : Type 0} (b : Bool) → (T b → A) → (T (not b) → A) → A
T-cases true f g = f tt
T-cases false f g = g tt
