-- Finding a kind by its number: what holds of every kind holds of the one found. Assumes nothing.
use mathlib.Core.Path.{◌≡◌, refl, sym, subst}
use mathlib.Core.Bool.{Bool, true, false, cond, ◌&&◌, ◌||◌}
use mathlib.Core.Logic.{◌⊎◌, inl, inr}
use mathlib.Core.List.{List, [], ◌∷◌}
use Prim.Native.Nat.{ℕ, suc, ◌≤◌, ◌<◌}
use native.Mathlib.Omega.{arith}
use native.Mathlib.Decide.{dec_lt}
use borrow.Author.Tests.{le-leb, lt-leb}
use lib.Dec.{T, ltb, ltb→lt, eqb, eqb→eq}
use Rattle.bits.specs.Below.{all_below}
use Rattle.bits.proofs.Below.{all_below-elim}
use Rattle.bits.proofs.Bools.{T-left, T-right}
use Rattle.vectors.specs.Lists.{All}
use Rattle.operations.specs.Kind.{Kind}
use Rattle.operations.specs.Kinds.{kinds, kind_count, op_none, numbered, find, is_kind, kind_of}

-- the kind found is one of the list and has the number looked for, or it is none
found : (P : Kind → Type 0) (n : ℕ) (ks : List Kind) → All P ks → (P (find n ks) × ((find n ks).number ≡ n)) ⊎ ((T (numbered n ks) → ⊥) × (find n ks ≡ op_none))
found P n [] e = inr (λ t. t, refl)
found P n (k ∷ ks) e = go (eqb k.number n) (eqb→eq k.number n) (found P n ks e.1)
  where
    go : (b : Bool) → (T b → k.number ≡ n) → (P (find n ks) × ((find n ks).number ≡ n)) ⊎ ((T (numbered n ks) → ⊥) × (find n ks ≡ op_none))
        → (P (cond b k (find n ks)) × ((cond b k (find n ks)).number ≡ n)) ⊎ ((T (b || numbered n ks) → ⊥) × (cond b k (find n ks) ≡ op_none))
    go true f r = inl (e.0, f tt)
    go false f r = r

-- what holds of every kind holds of the kind that has a number, and that one has it
pub each-kind : (P : Kind → Type 0) → All P kinds → (n : ℕ) → T (is_kind n) → P (kind_of n) × ((kind_of n).number ≡ n)
unfolding is_kind kind_of
each-kind P e n t = elim (found P n kinds e) [ inl x ↦ x | inr y ↦ absurd (y.0 t) ]

-- what holds of every kind, and of none, holds of what any number finds
pub any-kind : (P : Kind → Type 0) → All P kinds → P op_none → (n : ℕ) → P (kind_of n)
unfolding kind_of
any-kind P e z n = elim (found P n kinds e) [ inl x ↦ x.0 | inr y ↦ subst P (sym y.1) z ]

-- ---- the numbers of kinds are those below kind_count

-- a word of 64 bits has a digit of two bits for each
pub kinds-few : kind_count ≤ 32
unfolding kind_count
kinds-few = omega arith

lows : List Kind → Bool
lows [] = true
lows (k ∷ ks) = ltb k.number kind_count && lows ks

all-low : T (lows kinds)
unfolding lows kind_count
all-low = tt

low_of : (n : ℕ) (ks : List Kind) → T (lows ks) → T (numbered n ks) → n < kind_count
unfolding lows
low_of n [] l t = absurd t
low_of n (k ∷ ks) l t = go (eqb k.number n) (eqb→eq k.number n) t (low_of n ks (T-right (ltb k.number kind_count) (lows ks) l))
  where
    go : (b : Bool) → (T b → k.number ≡ n) → T (b || numbered n ks) → (T (numbered n ks) → n < kind_count) → n < kind_count
    go true f u g = subst (λ (m : ℕ). m < kind_count) (f tt) (ltb→lt k.number kind_count (T-left (ltb k.number kind_count) (lows ks) l))
    go false f u g = g u

pub kind-below : (n : ℕ) → T (is_kind n) → n < kind_count
unfolding is_kind
kind-below n t = low_of n kinds all-low t

all-below : T (all_below kind_count is_kind)
unfolding all_below is_kind kind_count
all-below = tt

pub below-kind : (n : ℕ) → n < kind_count → T (is_kind n)
below-kind n h = all_below-elim kind_count is_kind all-below n h

-- a test of all numbers of kinds, computed once, holds of each
pub kind-test : (p : ℕ → Bool) → T (all_below kind_count p) → (n : ℕ) → T (is_kind n) → T (p n)
kind-test p t n h = all_below-elim kind_count p t n (kind-below n h)

-- the code's test
known : (n : ℕ) (b : Bool) → (T b → n < kind_count) → (n < kind_count → T b) → ltb n kind_count ≡ b
known n true f g = le-leb (suc n) kind_count (f tt)
known n false f g =
    elim (dec_lt n kind_count) [
      | yes y ↦ absurd (g y)
      | no z ↦ lt-leb (suc n) kind_count (omega arith)
    ]

pub kind_known : (n : ℕ) → ltb n kind_count ≡ is_kind n
kind_known n = known n (is_kind n) (kind-below n) (below-kind n)
