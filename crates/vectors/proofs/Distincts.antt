-- Lists of which no two elements are one: counted up, and never longer than there are numbers for their elements. Assumes nothing.
use mathlib.Core.Path.{◌≡◌, refl, sym, ap, ◌∙◌}
use mathlib.Core.Bool.{Bool, true, false, cond}
use mathlib.Core.Logic.{◌≢◌}
use mathlib.Core.List.{List, [], ◌∷◌}
use Prim.Native.Nat.{ℕ, zero, suc, ◌+◌, ◌≤◌, ◌<◌}
use native.Mathlib.Decide.{ℕ_discrete}
use native.Mathlib.Omega.{arith}
use lib.Dec.{T, eqb, eqb→eq}
use lib.ListN.{length}
use Rattle.bits.specs.Counted.{listed}
use Rattle.bits.proofs.Bools.{eq→eqb}
use Rattle.vectors.specs.Lists.{All, Missing, Distinct}
use Rattle.vectors.proofs.Lists.{all-imp}
use Rattle.vectors.proofs.ListParts.{listed-all}

pub listed-distinct : (f : ℕ → ℕ) (i n : ℕ) → ((j k : ℕ) → i ≤ j → j < k → k < i + n → f k ≢ f j) → Distinct (listed f i n)
unfolding listed
listed-distinct f i zero h = tt
listed-distinct f i (suc n) h = (
  listed-all (λ j. j ≢ f i) f (suc i) n (λ k l u. h i k (omega arith) (omega arith) (omega arith)),
  listed-distinct f (suc i) n (λ j k l m u. h j k (omega arith) m (omega arith)),
)

-- ---- the elements other than n

module _ (n : ℕ) where
  abbrev without : List ℕ → List ℕ
  without [] = []
  without (i ∷ l) = cond (eqb i n) (without l) (i ∷ without l)

  without_all : (P : ℕ → Type 0) (l : List ℕ) → All P l → All P (without l)
  without_all P [] p = tt
  without_all P (i ∷ l) p = go (eqb i n) (without_all P l p.1)
    where
      go : (b : Bool) → All P (without l) → All P (cond b (without l) (i ∷ without l))
      go true q = q
      go false q = (p.0, q)

  without-below : (l : List ℕ) → All (λ i. i < suc n) l → All (λ i. i < n) (without l)
  without-below [] p = tt
  without-below (i ∷ l) p = go (eqb i n) (λ e. eq→eqb e) (without-below l p.1)
    where
      go : (b : Bool) → (i ≡ n → T b) → All (λ i. i < n) (without l) → All (λ i. i < n) (cond b (without l) (i ∷ without l))
      go true f q = q
      go false f q = (elim (ℕ_discrete i n) [ yes e ↦ absurd (f e) | no d ↦ (let h = p.0 in omega arith) ], q)

  without-distinct : (l : List ℕ) → Distinct l → Distinct (without l)
  without-distinct [] D = tt
  without-distinct (i ∷ l) D = go (eqb i n) (without-distinct l D.1)
    where
      go : (b : Bool) → Distinct (without l) → Distinct (cond b (without l) (i ∷ without l))
      go true q = q
      go false q = (without_all (λ j. j ≢ i) l D.0, q)

  without-none : (l : List ℕ) → Missing n l → length (without l) ≡ length l
  without-none [] d = refl
  without-none (i ∷ l) d = go (eqb i n) (eqb→eq i n) (without-none l d.1)
    where
      go : (b : Bool) → (T b → i ≡ n) → length (without l) ≡ length l → length (cond b (without l) (i ∷ without l)) ≡ suc (length l)
      go true f e = absurd (d.0 (f tt))
      go false f e = ap suc e

  without-length : (l : List ℕ) → Distinct l → length l ≤ suc (length (without l))
  without-length [] D = omega arith
  without-length (i ∷ l) D = go (eqb i n) (eqb→eq i n) (without-length l D.1)
    where
      go : (b : Bool) → (T b → i ≡ n) → length l ≤ suc (length (without l)) → suc (length l) ≤ suc (length (cond b (without l) (i ∷ without l)))
      go true f h = let e = without-none l (all-imp (λ j d q. d (q ∙ sym (f tt))) l D.0) in omega arith
      go false f h = omega arith

pub distinct-length : (n : ℕ) (l : List ℕ) → All (λ i. i < n) l → Distinct l → length l ≤ n
distinct-length zero [] p D = omega arith
distinct-length zero (i ∷ l) p D = let h = p.0 in absurd (omega arith)
distinct-length (suc n) l p D =
    let h = without-length n l D in
    let i = distinct-length n (without n l) (without-below n l p) (without-distinct n l D) in
    omega arith
