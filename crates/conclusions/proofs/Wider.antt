-- A bit that becomes X widens a vector, and rows; of two that lie inside each other both stay so. Assumes nothing.
use mathlib.Core.Path.{◌≡◌, refl, sym, ap, ◌∙◌, subst, subst₂}
use mathlib.Core.Logic.{◌≢◌}
use mathlib.Core.List.{List}
use Prim.Native.Nat.{ℕ, ◌<◌}
use native.Mathlib.Decide.{ℕ_discrete}
use native.Mathlib.Omega.{arith}
use lib.Dec.{T, eqb→eq}
use lib.ListN.{length, get_or}
use Rattle.bits.specs.Bit.{bit}
use Rattle.bits.proofs.Bools.{eq→eqb}
use Rattle.vectors.specs.Row.{Row, WellFormed, Inside}
use Rattle.vectors.proofs.Insides.{inside-known, inside-of-known}
use Rattle.checks.specs.Table.{State, row_at}
use Rattle.steps.specs.States.{StateFits, InsideState}
use Rattle.steps.proofs.Put.{row_same, row_other, inside-put}
use Rattle.conclusions.specs.Pass.{Position, forget_bit, forget, known_at}
use Rattle.conclusions.specs.Encoding.{InTable}
use Rattle.conclusions.proofs.Forgets.{forget-mask-same, forget-mask-other, forget-value-other}

-- ---- vectors

module _ (r : Row) (k : ℕ) where
  -- a bit known afterwards is another, and was known before
  known-before : (j : ℕ) → bit (forget_bit r k).mask j ≡ 0 → (j ≢ k) × (bit r.mask j ≡ 0)
  known-before j e =
      elim (ℕ_discrete j k) [
        | yes p ↦ let o = forget-mask-same r k in let z = ap (bit (forget_bit r k).mask) p in absurd (omega arith)
        | no d ↦ (d, sym (forget-mask-other r k j d) ∙ e)
      ]

  around : Inside r (forget_bit r k)
  around = inside-of-known r (forget_bit r k) refl (λ j h e. let f = known-before j e in record { known = f.1; as_value = sym (forget-value-other r k j f.0) })

both-around : (p q : Row) (k : ℕ) → WellFormed p → p.width ≡ q.width → Inside p q → Inside (forget_bit p k) (forget_bit q k)
both-around p q k F e I =
    inside-of-known (forget_bit p k) (forget_bit q k) e
    (λ j h z.
    let f = known-before q k j z in
    let i = inside-known p q e F I j h f.1 in
    record {
      known = forget-mask-other p k j f.0 ∙ i.known;
      as_value = forget-value-other p k j f.0 ∙ i.as_value ∙ sym (forget-value-other q k j f.0);
    })

-- ---- rows

module _ (widths : List ℕ) where
  pub forget-others : (s : State) (p : Position) (i : ℕ) → i ≢ p.row → row_at widths (forget widths s p) i ≡ row_at widths s i
  forget-others s p i d = row_other widths s p.row (forget_bit (row_at widths s p.row) p.at) i d

  forget-row : (s : State) → StateFits widths s → (p : Position) (i : ℕ) → i ≡ p.row → i < length widths → row_at widths (forget widths s p) i ≡ forget_bit (row_at widths s p.row) p.at
  forget-row s S p i e h = row_same widths s S p.row (forget_bit (row_at widths s p.row) p.at) refl i e h

  pub forget-wider : (s : State) → StateFits widths s → (p : Position) → InsideState widths s (forget widths s p)
  forget-wider s S p i h =
      elim (ℕ_discrete i p.row) [
        | yes e ↦ subst₂ Inside (ap (row_at widths s) (sym e)) (sym (forget-row s S p i e h)) (around (row_at widths s p.row) p.at)
        | no d ↦ subst (Inside (row_at widths s i)) (sym (forget-others s p i d)) (λ n x. x)
      ]

  pub forget-inside : (s r : State) → StateFits widths s → StateFits widths r → InsideState widths s r → (p : Position) → p.row < length widths
      → InsideState widths (forget widths s p) (forget widths r p)
  forget-inside s r S R I p h =
      inside-put widths s r S R I p.row (forget_bit (row_at widths s p.row) p.at) (forget_bit (row_at widths r p.row) p.at) refl refl
      (both-around (row_at widths s p.row) (row_at widths r p.row) p.at (S.formed p.row h) refl (I p.row h))

  -- known in rows, known in rows inside them
  pub known-inside : (s r : State) → StateFits widths s → InsideState widths s r → (p : Position) → InTable widths p.row p.at → T (known_at r p) → T (known_at s p)
  known-inside s r S I p P u =
      eq→eqb (inside-known (row_at widths s p.row) (row_at widths r p.row) refl (S.formed p.row P.row_in) (I p.row P.row_in) p.at P.at_in (eqb→eq _ _ u)).known

  -- unknown once forgotten
  pub forget-unknown : (s : State) → StateFits widths s → (p : Position) → p.row < length widths → T (known_at (forget widths s p) p) → ⊥
  forget-unknown s S p h u =
      let m = ap (λ (x : Row). bit x.mask p.at) (forget-row s S p p.row refl h) in
      let z = eqb→eq (bit (get_or (forget widths s p).masks p.row 0) p.at) 0 u in
      omega (arith, forget-mask-same (row_at widths s p.row) p.at)
