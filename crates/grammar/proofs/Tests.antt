-- Laws of choices, of tests of every element, and of words compared. Assumes nothing.
--   decide                                    a test, or its negation
--   all_of-imp .. all_of-map, undone                tests of every element
--   same→eq, same_self, other_word            words compared
use mathlib.Core.Path.{◌≡◌, refl, ap₂, subst}
use mathlib.Core.Bool.{Bool, true, false, not, ◌||◌}
use mathlib.Core.Logic.{◌⊎◌, inl, inr}
use mathlib.Core.List.{List, [], ◌∷◌, ◌++◌, map}
use Prim.Native.Nat.{ℕ, zero, suc, ◌<◌}
use native.Mathlib.Nat.{not-suc-le-zero, le_of_suc-le-suc}
use lib.Dec.{T, eqb, eqb→eq, eqb_refl, T_not, not_T}
use lib.ListN.{length, get_or}
use Rattle.bits.proofs.Bools.{T_and, T-left, T-right, eq→eqb}
use Rattle.vectors.specs.Lists.{all_of}
use Rattle.grammar.specs.Lists.{same}

pub decide : (b : Bool) → T b ⊎ T (not b)
decide true = inl tt
decide false = inr tt

pub is_true : (b : Bool) → T b → b ≡ true
is_true true t = refl
is_true false t = absurd t

pub is_false : (b : Bool) → T (not b) → b ≡ false
is_false true t = absurd t
is_false false t = refl

pub or_left : (a b : Bool) → T (a || b) → T (not b) → T a
or_left true b t u = tt
or_left false b t u = absurd (T_not b u t)

pub or_right : (a b : Bool) → T (a || b) → T (not a) → T b
or_right true b t u = absurd u
or_right false b t u = t

pub ne→neqb : (m n : ℕ) → (m ≡ n → ⊥) → T (not (eqb m n))
ne→neqb m n f = not_T (eqb m n) (λ t. f (eqb→eq m n t))

pub neqb→ne : (m n : ℕ) → T (not (eqb m n)) → m ≡ n → ⊥
neqb→ne m n t e = T_not (eqb m n) t (eq→eqb e)

-- ---- a test of every element

module _ {A : Type 0} where
  pub all_of-imp : (p q : A → Bool) → ((a : A) → T (p a) → T (q a)) → (l : List A) → T (all_of p l) → T (all_of q l)
  unfolding all_of
  all_of-imp p q f [] t = tt
  all_of-imp p q f (a ∷ l) t = T_and (q a) (all_of q l) (f a (T-left (p a) (all_of p l) t)) (all_of-imp p q f l (T-right (p a) (all_of p l) t))

  pub all_of-append : (p : A → Bool) (l r : List A) → T (all_of p l) → T (all_of p r) → T (all_of p (l ++ r))
  unfolding all_of
  all_of-append p [] r t u = u
  all_of-append p (a ∷ l) r t u = T_and (p a) (all_of p (l ++ r)) (T-left (p a) (all_of p l) t) (all_of-append p l r (T-right (p a) (all_of p l) t) u)

  pub all-at : (p : A → Bool) (l : List A) (d : A) (i : ℕ) → i < length l → T (all_of p l) → T (p (get_or l i d))
  unfolding all_of
  all-at p [] d i h t = absurd (not-suc-le-zero h)
  all-at p (a ∷ l) d zero h t = T-left (p a) (all_of p l) t
  all-at p (a ∷ l) d (suc i) h t = all-at p l d i (le_of_suc-le-suc h) (T-right (p a) (all_of p l) t)

  pub all_none : (p : A → Bool) → T (all_of p [])
  unfolding all_of
  all_none p = tt

  pub all_cons : (p : A → Bool) (a : A) (l : List A) → T (p a) → T (all_of p l) → T (all_of p (a ∷ l))
  unfolding all_of
  all_cons p a l t u = T_and (p a) (all_of p l) t u

  pub all_one : (p : A → Bool) (a : A) → T (p a) → T (all_of p (a ∷ []))
  all_one p a t = all_cons p a [] t (all_none p)

pub all_of-map : {A B : Type 0} (p : B → Bool) (f : A → B) (q : A → Bool) → ((a : A) → T (q a) → T (p (f a))) → (l : List A) → T (all_of q l) → T (all_of p (map f l))
unfolding all_of
all_of-map p f q g [] t = tt
all_of-map p f q g (a ∷ l) t = T_and (p (f a)) (all_of p (map f l)) (g a (T-left (q a) (all_of q l) t)) (all_of-map p f q g l (T-right (q a) (all_of q l) t))

-- a map that undoes another on what passes a test
pub undone : {A B : Type 0} (f : A → B) (g : B → A) (p : A → Bool) → ((a : A) → T (p a) → g (f a) ≡ a) → (l : List A) → T (all_of p l) → map g (map f l) ≡ l
unfolding all_of
undone f g p h [] t = refl
undone {A} f g p h (a ∷ l) t = ap₂ {C = List A} ◌∷◌ (h a (T-left (p a) (all_of p l) t)) (undone f g p h l (T-right (p a) (all_of p l) t))

-- ---- words

pub same→eq : (a b : List ℕ) → T (same a b) → a ≡ b
unfolding same
same→eq [] [] t = refl
same→eq [] (b ∷ bs) t = absurd t
same→eq (a ∷ l) [] t = absurd t
same→eq (a ∷ l) (b ∷ bs) t = ap₂ {C = List ℕ} ◌∷◌ (eqb→eq a b (T-left (eqb a b) (same l bs) t)) (same→eq l bs (T-right (eqb a b) (same l bs) t))

pub same_self : (a : List ℕ) → T (same a a)
unfolding same
same_self [] = tt
same_self (x ∷ a) = T_and (eqb x x) (same a a) (eqb_refl x) (same_self a)

pub eq→same : (a b : List ℕ) → a ≡ b → same a b ≡ true
eq→same a b e = is_true (same a b) (subst (λ (l : List ℕ). T (same a l)) e (same_self a))

pub other_word : (a b : List ℕ) → (a ≡ b → ⊥) → same a b ≡ false
other_word a b h = is_false (same a b) (not_T (same a b) (λ t. h (same→eq a b t)))
