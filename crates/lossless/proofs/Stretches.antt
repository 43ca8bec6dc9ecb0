-- The request's conditions on a stretch, of its effects one by one: each reads distinct rows, which no record before it has read. Assumes nothing.
use mathlib.Core.Path.{sym, subst}
use mathlib.Core.Logic.{◌≢◌, inr}
use mathlib.Core.List.{List, [], ◌∷◌, ◌++◌}
use Prim.Native.Nat.{ℕ, zero, suc, ◌+◌, ◌≤◌, ◌<◌}
use native.Mathlib.Decide.{ℕ_discrete}
use native.Mathlib.Omega.{arith}
use Rattle.bits.specs.Counted.{rising}
use Rattle.vectors.specs.Lists.{All, Missing, Distinct}
use Rattle.vectors.proofs.Lists.{all-of, all_both}
use Rattle.vectors.proofs.ListParts.{all_left, all_right, all-rising}
use Rattle.operations.specs.Record.{Effect}
use Rattle.lossless.proofs.FreeRows.{Fresh}

-- ---- two lists, one after another

distinct-left : (l r : List ℕ) → Distinct (l ++ r) → Distinct l
distinct-left [] r D = tt
distinct-left (i ∷ l) r D = (all_left (λ j. j ≢ i) l r D.0, distinct-left l r D.1)

distinct-right : (l r : List ℕ) → Distinct (l ++ r) → Distinct r
distinct-right [] r D = D
distinct-right (i ∷ l) r D = distinct-right l r D.1

distinct_apart : (l r : List ℕ) → Distinct (l ++ r) → All (λ o. Missing o l) r
distinct_apart [] r D = all-of (λ o. tt) r
distinct_apart (i ∷ l) r D = all_both (λ o d m. ((λ p. d (sym p)), m)) r (all_right (λ j. j ≢ i) l r D.0) (distinct_apart l r D.1)

-- ---- many, counting up

module _ (f : ℕ → List ℕ) where
  pub part-distinct : (i n : ℕ) → Distinct (rising f i n) → (j : ℕ) → i ≤ j → j < i + n → Distinct (f j)
  unfolding rising
  part-distinct i zero D j h l = absurd (omega arith)
  part-distinct i (suc n) D j h l =
      elim (ℕ_discrete i j) [
        | yes p ↦ subst (λ (x : ℕ). Distinct (f x)) p (distinct-left (f i) (rising f (suc i) n) D)
        | no d ↦ part-distinct (suc i) n (distinct-right (f i) (rising f (suc i) n) D) j (omega arith) (omega arith)
      ]

  pub part-unread : (i n : ℕ) → Distinct (rising f i n) → (k j : ℕ) → i ≤ k → k < j → j < i + n → All (λ o. Missing o (f k)) (f j)
  unfolding rising
  part-unread i zero D k j h m l = absurd (omega arith)
  part-unread i (suc n) D k j h m l =
      elim (ℕ_discrete i k) [
        | yes p ↦ subst (λ (x : ℕ). All (λ o. Missing o (f x)) (f j)) p
            (all-rising (λ o. Missing o (f i)) f (suc i) n (distinct_apart (f i) (rising f (suc i) n) D) j (omega arith) (omega arith))
        | no d ↦ part-unread (suc i) n (distinct-right (f i) (rising f (suc i) n) D) k j (omega arith) m (omega arith)
      ]

-- ---- rows that no record has read are fresh

pub unread-fresh : (e : ℕ → Effect) (j : ℕ) (l : List ℕ) → ((k : ℕ) → k < j → All (λ o. Missing o (e k).operands) l) → All (Fresh e j) l
unread-fresh e zero l h = all-of (λ o. tt) l
unread-fresh e (suc j) l h = all_both (λ o m v. inr (m, v)) l (h j (omega arith)) (unread-fresh e j l (λ k m. h k (omega arith)))
