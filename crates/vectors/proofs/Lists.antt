-- Laws of properties along lists. Assumes nothing.
use mathlib.Core.Path.{◌≡◌, refl, sym, ap, subst}
use mathlib.Core.Bool.{Bool, true, false, not, ◌&&◌, ◌||◌}
use mathlib.Core.Logic.{inl, inr}
use mathlib.Core.List.Memᴰ
use mathlib.Core.List.{List, [], ◌∷◌, map, Memᴰ}
use Prim.Native.Nat.{ℕ, zero, suc, ◌<◌}
use native.Mathlib.Omega.{arith}
use lib.Dec.{T}
use lib.ListN.{length, get_or}
use Rattle.bits.proofs.Bools.{T_and, T-left, T-right, T-inl, T-inr, T-or}
use Rattle.vectors.specs.Lists.{All, Pointwise, all_of, some_of}

-- what holds of each element, written in a row
infixr 1 ◌⨾◌
pub ◌⨾◌ : {A B : Type 0} → A → B → A × B
a ⨾ b = (a, b)

pub all_map : {A B : Type 0} {Q : A → Type 0} (P : B → Type 0) (g : A → B) → ((a : A) → Q a → P (g a)) → (l : List A) → All Q l → All P (map g l)
all_map P g h [] q = tt
all_map P g h (a ∷ l) q = (h a q.0, all_map P g h l q.1)

pub all-unmap : {A B : Type 0} (P : B → Type 0) (g : A → B) (l : List A) → All P (map g l) → All (λ a. P (g a)) l
all-unmap P g [] q = tt
all-unmap P g (a ∷ l) q = (q.0, all-unmap P g l q.1)

pub all-imp : {A : Type 0} {Q P : A → Type 0} → ((a : A) → Q a → P a) → (l : List A) → All Q l → All P l
all-imp h [] q = tt
all-imp h (a ∷ l) q = (h a q.0, all-imp h l q.1)

pub all_both : {A : Type 0} {Q R P : A → Type 0} → ((a : A) → Q a → R a → P a) → (l : List A) → All Q l → All R l → All P l
all_both h [] q r = tt
all_both h (a ∷ l) q r = (h a q.0 r.0, all_both h l q.1 r.1)

pub all-of : {A : Type 0} {P : A → Type 0} → ((a : A) → P a) → (l : List A) → All P l
all-of h [] = tt
all-of h (a ∷ l) = (h a, all-of h l)

pub all-for : {A B : Type 0} (P : B → A → Type 0) (l : List A) → ((b : B) → All (P b) l) → All (λ a. (b : B) → P b a) l
all-for P [] h = tt
all-for P (a ∷ l) h = ((λ b. (h b).0), all-for P l (λ b. (h b).1))

pub all-member : {A : Type 0} (P : A → Type 0) {a : A} (l : List A) → All P l → Memᴰ a l → P a
all-member P [] q d = absurd (Memᴰ.not-nil d)
all-member P (b ∷ l) q d = elim (Memᴰ.cases_cons d) [ inl e ↦ subst P (sym e) q.0 | inr m ↦ all-member P l q.1 m ]

pub pointwise-map : {A B C : Type 0} {Q : A → Type 0} (R : B → C → Type 0) (g : A → B) (g' : A → C) → ((a : A) → Q a → R (g a) (g' a)) → (l : List A) → All Q l → Pointwise R (map g l) (map g' l)
pointwise-map R g g' h [] q = tt
pointwise-map R g g' h (a ∷ l) q = (h a q.0, pointwise-map R g g' h l q.1)

pub all_get_d : {A : Type 0} (P : A → Type 0) (l : List A) (d : A) → All P l → (i : ℕ) → i < length l → P (get_or l i d)
all_get_d P [] d q i h = absurd (omega arith)
all_get_d P (a ∷ l) d q zero h = q.0
all_get_d P (a ∷ l) d q (suc i) h = all_get_d P l d q.1 i (omega arith)

-- ---- tests

pub all_of-all : {A : Type 0} (p : A → Bool) (l : List A) → T (all_of p l) → All (λ a. T (p a)) l
unfolding all_of
all_of-all p [] t = tt
all_of-all p (a ∷ l) t = (T-left (p a) (all_of p l) t, all_of-all p l (T-right (p a) (all_of p l) t))

pub all-all_of : {A : Type 0} (p : A → Bool) (l : List A) → All (λ a. T (p a)) l → T (all_of p l)
unfolding all_of
all-all_of p [] q = tt
all-all_of p (a ∷ l) q = T_and (p a) (all_of p l) q.0 (all-all_of p l q.1)

pub all_of-mapped : {A B : Type 0} (p : B → Bool) (f : A → B) (l : List A) → all_of p (map f l) ≡ all_of (λ a. p (f a)) l
unfolding all_of
all_of-mapped p f [] = refl
all_of-mapped p f (a ∷ l) = ap (λ (b : Bool). p (f a) && b) (all_of-mapped p f l)

-- two tests that agree
pub all_of-same : {A : Type 0} (p q : A → Bool) → ((a : A) → p a ≡ q a) → (l : List A) → all_of p l ≡ all_of q l
unfolding all_of
all_of-same p q e [] = refl
all_of-same p q e (a ∷ l) = λ ι. e a ι && all_of-same p q e l ι

neither : (a b : Bool) → T (not (a || b)) → T (not a) × T (not b)
neither true b t = absurd t
neither false b t = (tt, t)

not-either : (a b : Bool) → T (not a) → T (not b) → T (not (a || b))
not-either true b t u = absurd t
not-either false b t u = u

pub none-all : {A : Type 0} (p : A → Bool) (l : List A) → T (not (some_of p l)) → All (λ a. T (not (p a))) l
unfolding some_of
none-all p [] t = tt
none-all p (a ∷ l) t = let n = neither (p a) (some_of p l) t in (n.0, none-all p l n.1)

pub all_none : {A : Type 0} (p : A → Bool) (l : List A) → All (λ a. T (not (p a))) l → T (not (some_of p l))
unfolding some_of
all_none p [] q = tt
all_none p (a ∷ l) q = not-either (p a) (some_of p l) q.0 (all_none p l q.1)

pub some_of-mapped : {A B : Type 0} (p : B → Bool) (f : A → B) (l : List A) → some_of p (map f l) ≡ some_of (λ a. p (f a)) l
unfolding some_of
some_of-mapped p f [] = refl
some_of-mapped p f (a ∷ l) = ap (λ (b : Bool). p (f a) || b) (some_of-mapped p f l)

-- what follows from an element that passes follows where some element does
pub some-any : {A X : Type 0} (p : A → Bool) (l : List A) → ((a : A) → T (p a) → X) → T (some_of p l) → X
unfolding some_of
some-any p [] f t = absurd t
some-any p (a ∷ l) f t = elim (T-or (p a) (some_of p l) t) [ inl u ↦ f a u | inr u ↦ some-any p l f u ]

-- a test that passes where another does
pub some-imp : {A : Type 0} (p q : A → Bool) (l : List A) → ((a : A) → T (p a) → T (q a)) → T (some_of p l) → T (some_of q l)
unfolding some_of
some-imp p q [] f t = t
some-imp p q (a ∷ l) f t = elim (T-or (p a) (some_of p l) t) [ inl u ↦ T-inl (q a) (some_of q l) (f a u) | inr u ↦ T-inr (q a) (some_of q l) (some-imp p q l f u) ]
