-- Two vectors, and two states row by row, are equal exactly where their masks and values are. Assumes nothing.
use mathlib.Core.Path.{◌≡◌, refl, sym, ap, ◌∙◌, subst}
use mathlib.Core.Bool.{Bool, true, false, ◌&&◌}
use mathlib.Core.List.{List}
use Prim.Native.Nat.{ℕ, ◌<◌}
use native.Mathlib.Omega.{arith}
use lib.Dec.{T, eqb, eqb→eq}
use lib.Ieee.Bits.{is_true}
use lib.ListN.{length}
use lib.Pointwise.{pointwise, bytes_decides}
use lib.Seq.{ext_get_or}
use Rattle.bits.proofs.Bools.{T_and, T-left, T-right, eq→eqb}
use Rattle.bits.proofs.Below.{all_below-intro, all_below-elim}
use Rattle.operations.proofs.SmtBits.{T-ext}
use Rattle.vectors.specs.Row.{Row}
use Rattle.checks.specs.Table.{State, row_at}
use Rattle.steps.specs.Encoding.{OwnRows}
use Rattle.orders.specs.Order.{equal_row, equal_states}

pub equal-of-test : (p q : Row) → p.width ≡ q.width → T (equal_row p q) → p ≡ q
equal-of-test p q e t =
    λ ι. record {
      width = e ι;
      mask = eqb→eq p.mask q.mask (T-left (eqb p.mask q.mask) _ t) ι;
      value = eqb→eq p.value q.value (T-right (eqb p.mask q.mask) _ t) ι;
    }

pub test-of-equal : (p q : Row) → p ≡ q → T (equal_row p q)
test-of-equal p q e = T_and (eqb p.mask q.mask) _ (eq→eqb (ap (λ (r : Row). r.mask) e)) (eq→eqb (ap (λ (r : Row). r.value) e))

-- lists that the test finds equal
same-lists : (xs ys : List ℕ) → T (pointwise eqb xs ys) → xs ≡ ys
same-lists xs ys t = (bytes_decides xs ys).0 (is_true (pointwise eqb xs ys) t)

test-of-lists : (xs ys : List ℕ) → xs ≡ ys → T (pointwise eqb xs ys)
test-of-lists xs ys e = subst T (sym ((bytes_decides xs ys).1 e)) tt

module _ (widths : List ℕ) (p q : State) (O : OwnRows widths p.masks p.values) (U : OwnRows widths q.masks q.values) where
  -- states with the same rows are one
  pub equal-of-tests : T (equal_states widths p q) → p ≡ q
  unfolding equal_states
  equal-of-tests t =
      λ ι. record {
        masks = ext_get_or 0 p.masks q.masks (O.masks_length ∙ sym U.masks_length) (λ i h. ap (λ (r : Row). r.mask) (row_is i (let l = O.masks_length in omega arith))) ι;
        values = ext_get_or 0 p.values q.values (O.values_length ∙ sym U.values_length) (λ i h. ap (λ (r : Row). r.value) (row_is i (let l = O.values_length in omega arith))) ι;
      }
    where
      row_is : (i : ℕ) → i < length widths → row_at widths p i ≡ row_at widths q i
      row_is i h = equal-of-test (row_at widths p i) (row_at widths q i) refl (all_below-elim (length widths) _ t i h)

  abbrev masks : Bool
  masks = pointwise eqb p.masks q.masks

  abbrev values : Bool
  values = pointwise eqb p.values q.values

  same-state : T (masks && values) → p ≡ q
  same-state t =
      λ ι. record {
        masks = same-lists p.masks q.masks (T-left masks values t) ι;
        values = same-lists p.values q.values (T-right masks values t) ι;
      }

  lists-tested : (masks && values) ≡ equal_states widths p q
  unfolding equal_states
  lists-tested =
      T-ext (masks && values) (equal_states widths p q)
      (λ t. all_below-intro (length widths) _ (λ i h. test-of-equal (row_at widths p i) (row_at widths q i) (ap (λ (s : State). row_at widths s i) (same-state t))))
      (λ t. let e = equal-of-tests t in T_and masks values (test-of-lists _ _ (ap (λ (s : State). s.masks) e)) (test-of-lists _ _ (ap (λ (s : State). s.values) e)))

  -- what the code's two tests find: the values decide where the masks are equal
  pub values-decide : masks ≡ true → values ≡ equal_states widths p q
  values-decide e = ap (λ (b : Bool). b && values) (sym e) ∙ lists-tested

  pub masks-differ : masks ≡ false → false ≡ equal_states widths p q
  masks-differ e = ap (λ (b : Bool). b && values) (sym e) ∙ lists-tested
