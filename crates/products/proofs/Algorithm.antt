-- Algorithm 2 of document 002 finds the bit of the best result, for every width, by what the pair mask n is. Assumes nothing.
--   no-pair-bit      no pair is unknown on both sides
--   lone-pair-bit    one is, at place i of the first factor
--   some-pairs-bit   one is, at place i, and another
use mathlib.Core.Path.{◌≡◌, refl, sym, ap, ap₂, ◌∙◌}
use mathlib.Core.Logic.{◌≢◌}
use mathlib.Core.List.{[], ◌∷◌}
use Prim.Native.Nat.{ℕ, ◌+◌, ◌-◌, ◌^◌, ◌≤◌, ◌<◌}
use native.Mathlib.Omega.{arith}
use lib.Bits.{bit_and}
use Rattle.bits.specs.Bit.{bit}
use Rattle.bits.specs.Reversed.{reversed}
use Rattle.bits.proofs.Constants.{bit-pow}
use Rattle.vectors.specs.declared.OutputBit.{OutputBit}
use Rattle.vectors.specs.declared.OutputBit.TheVariants.{Unknown}
use Rattle.vectors.specs.Row.{row, WellFormed}
use Rattle.operations.specs.Arithmetic.{op_mul}
use Rattle.operations.specs.Result.{result_of}
use Rattle.products.specs.declared.factors.Extremes.{Extremes}
use Rattle.vectors.specs.OutputBits.{output_bit}
use Rattle.products.specs.ColumnSum.{column_floor, bit_of_floors}
use Rattle.products.specs.Factors.{extremes_of, with_pair, settled_bit}
use Rattle.products.specs.Rule.{DoublyUnknown}
use Rattle.products.proofs.SetBits.{set-or}
use Rattle.products.proofs.Reached.{doubly-swap}
use Rattle.products.proofs.Masks.{least-extreme, greatest-extreme}
use Rattle.products.proofs.PairMask.{mask-doubly, mask-none, mask-only, other-bit}
use Rattle.products.proofs.ExtremeFactors.{least-bit-lt, greatest-bit-lt, least-without-pair, greatest-without-pair, least-with-pair, greatest-with-pair}
use Rattle.products.proofs.Rule.{two-unknown-pairs, bit-by-floors}

module _ (w ma va mb vb k : ℕ) (h : k < w) (F : WellFormed (row w ma va)) (G : WellFormed (row w mb vb)) where
  module _ (n : ℕ) (is-mask : n ≡ bit_and ma (reversed (k + 1) mb)) where
    pub no-pair-bit : n ≡ 0 → (x : Extremes) (r : OutputBit) → x ≡ extremes_of k ma va mb vb → r ≡ settled_bit k x
        → r ≡ output_bit (result_of op_mul w 0 (row w ma va ∷ row w mb vb ∷ [])) k
    unfolding settled_bit extremes_of
    no-pair-bit e x r ex er =
        let none = mask-none k ma mb (sym is-mask ∙ e) in
        er ∙ ap (settled_bit k) ex ∙ sym (bit-by-floors w ma va mb vb k _ _ _ _ h F G (least-without-pair w ma va mb vb k h F G none) (greatest-without-pair w ma va mb vb k h F G none))

    -- a set bit of the pair mask
    set-doubly : (i : ℕ) → bit n i ≡ 1 → DoublyUnknown k ma mb i
    set-doubly i e = mask-doubly k ma mb i (ap (λ (x : ℕ). bit x i) (sym is-mask) ∙ e)

    pub some-pairs-bit : (v i : ℕ) → n < 2 ^ v → i < v → bit n i ≡ 1 → n ≢ 2 ^ i
        → Unknown ≡ output_bit (result_of op_mul w 0 (row w ma va ∷ row w mb vb ∷ [])) k
    some-pairs-bit v i l m e d =
        let (j, f, g) = other-bit v n i l m e d in
        sym (two-unknown-pairs w ma va mb vb k j i h F G f (set-doubly j g) (set-doubly i e))

    module _ (i : ℕ) (e : n ≡ 2 ^ i) where
      lone : DoublyUnknown k ma mb i
      lone = set-doubly i (ap (λ (x : ℕ). bit x i) e ∙ bit-pow i)

      only : (j : ℕ) → j ≢ i → ¬ DoublyUnknown k ma mb j
      only = mask-only k ma mb i (sym is-mask ∙ e)

      twin : DoublyUnknown k mb ma (k - i)
      twin = let l = lone.within in doubly-swap k mb ma (k - i) i (omega arith) lone

      pub lone-within : i ≤ k
      lone-within = lone.within

      lone-bit : settled_bit k (with_pair k i (extremes_of k ma va mb vb)) ≡ output_bit (result_of op_mul w 0 (row w ma va ∷ row w mb vb ∷ [])) k
      unfolding settled_bit with_pair extremes_of
      lone-bit =
          ap₂ bit_of_floors
          (ap₂ (column_floor k)
          (set-or _ i _ ((least-extreme w k ma va mb vb F).double i lone) (least-bit-lt k i _ _))
          (set-or _ (k - i) _ ((least-extreme w k mb vb ma va G).double (k - i) twin) (least-bit-lt k i _ _)))
          (ap₂ (column_floor k)
          (set-or _ i _ ((greatest-extreme w k ma va mb vb F).double i lone) (greatest-bit-lt k i _ _))
          (set-or _ (k - i) _ ((greatest-extreme w k mb vb ma va G).double (k - i) twin) (omega arith)))
          ∙ sym (bit-by-floors w ma va mb vb k _ _ _ _ h F G
          (least-with-pair w ma va mb vb k h F G i lone only _ _ refl refl)
          (greatest-with-pair w ma va mb vb k h F G i lone only _ _ refl refl))

      pub lone-pair-bit : (x y : Extremes) (r : OutputBit) → x ≡ extremes_of k ma va mb vb → y ≡ with_pair k i x → r ≡ settled_bit k y
          → r ≡ output_bit (result_of op_mul w 0 (row w ma va ∷ row w mb vb ∷ [])) k
      lone-pair-bit x y r ex ey er = er ∙ ap (settled_bit k) (ey ∙ ap (with_pair k i) ex) ∙ lone-bit
