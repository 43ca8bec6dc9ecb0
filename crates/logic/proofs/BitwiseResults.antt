-- The words of not, and, or, xor are the kinds' results, for every width. Assumes nothing.
use Rattle.std.proofs.Common.{◌≡◌, ℕ, ◌-◌, ◌^◌, ◌≤◌, min, max, [], ◌∷◌, get_or, sym, refl, ap, ◌∙◌, ap₂, lt_of_lt_of_le, lt_of_le_of_lt, pow_mono}
use lib.Bits.{bit_and, bit_or, bit_xor, differ, and_lt, or_lt, xor_lt, and_le_l}
use lib.Pow.{ones_lt}
use Rattle.bits.specs.Bit.{bit}
use Rattle.bits.proofs.Bits.{bit-and, bit-or, bit-xor}
use Rattle.bits.proofs.Constants.{bit-ones, bit-complement}
use Rattle.vectors.specs.Row.{row}
use Rattle.operations.specs.Bitwise.{op_not, op_and, op_or, op_xor}
use Rattle.operations.specs.Result.{result_of, Ready}
use Rattle.bits.proofs.Words.{bit-clear}
use Rattle.vectors.proofs.Operands.{chosen_at}
use Rattle.logic.proofs.Bitwise.{bits_at-get_or, bitwise-best}
use Rattle.logic.proofs.Letters.{letter, not_table, and-table, or-table, xor-table, two-rows}

module _ (w ma va : ℕ) where
  pub not-result : Ready op_not w 0 (row w ma va ∷ []) → row w ma (bit_xor (2 ^ w - 1) (bit_or va ma)) ≡ result_of op_not w 0 (row w ma va ∷ [])
  unfolding op_not result_of
  not-result R =
      bitwise-best w _ (λ bs. 1 - get_or bs 0 0) (row w ma va ∷ []) (row w ma (bit_xor (2 ^ w - 1) (bit_or va ma))) R.formed (record {
        width_is = refl;
        widths = (refl, tt);
        mask_below = R.formed.0.mask_below;
        value_below = xor_lt w _ _ (ones_lt w) (or_lt w _ _ R.formed.0.value_below R.formed.0.mask_below);
        plain = λ k l ns c. bit-complement w (get_or ns 0 0) k (chosen_at (row w ma va ∷ []) ns c 0).below l ∙ ap (λ (x : ℕ). 1 - x) (sym (bits_at-get_or k ns 0));
        each_bit = λ k l. ap (row 1 (bit ma k)) (bit-xor (2 ^ w - 1) (bit_or va ma) k ∙ ap₂ differ (bit-ones w k l) (bit-or va ma k)) ∙ not_table _ _ (letter (row w ma va) R.formed.0 k);
      })

module _ (w ma va mb vb : ℕ) where
  -- the greatest numbers and the least ones: where their results differ the bit is unknown
  pub and-result : Ready op_and w 0 (row w ma va ∷ row w mb vb ∷ [])
      → row w (bit_xor (bit_and (bit_or va ma) (bit_or vb mb)) (bit_and va vb)) (bit_and va vb) ≡ result_of op_and w 0 (row w ma va ∷ row w mb vb ∷ [])
  unfolding op_and result_of
  and-result R =
      let A = R.formed.0 in
      let B = R.formed.1.0 in
      let below = and_lt w va vb A.value_below B.value_below in
      two-rows w bit_and min _ _ (row w ma va) (row w mb vb) _ _ A B refl refl bit-and and-table (
        xor_lt w _ _ (and_lt w _ _ (or_lt w va ma A.value_below A.mask_below) (or_lt w vb mb B.value_below B.mask_below)) below,
        λ k l. bit-xor _ _ k ∙ ap₂ differ (bit-and _ _ k ∙ ap₂ min (bit-or va ma k) (bit-or vb mb k)) (bit-and va vb k),
      )
      (below, λ k l. bit-and va vb k)

  pub or-result : Ready op_or w 0 (row w ma va ∷ row w mb vb ∷ [])
      → row w (bit_xor (bit_or (bit_or va vb) (bit_or ma mb)) (bit_or va vb)) (bit_or va vb) ≡ result_of op_or w 0 (row w ma va ∷ row w mb vb ∷ [])
  unfolding op_or result_of
  or-result R =
      let A = R.formed.0 in
      let B = R.formed.1.0 in
      let below = or_lt w va vb A.value_below B.value_below in
      two-rows w bit_or max _ _ (row w ma va) (row w mb vb) _ _ A B refl refl bit-or or-table (
        xor_lt w _ _ (or_lt w _ _ below (or_lt w ma mb A.mask_below B.mask_below)) below,
        λ k l. bit-xor _ _ k ∙ ap₂ differ (bit-or _ _ k ∙ ap₂ max (bit-or va vb k) (bit-or ma mb k)) (bit-or va vb k),
      )
      (below, λ k l. bit-or va vb k)

  -- n is the word's width
  pub xor-result : (n : ℕ) → w ≤ n → Ready op_xor w 0 (row w ma va ∷ row w mb vb ∷ [])
      → row w (bit_or ma mb) (bit_and (bit_xor va vb) (2 ^ n - 1 - bit_or ma mb)) ≡ result_of op_xor w 0 (row w ma va ∷ row w mb vb ∷ [])
  unfolding op_xor result_of
  xor-result n h R =
      let A = R.formed.0 in
      let B = R.formed.1.0 in
      let below = or_lt w ma mb A.mask_below B.mask_below in
      two-rows w bit_xor differ _ _ (row w ma va) (row w mb vb) _ _ A B refl refl bit-xor xor-table
      (below, λ k l. bit-or ma mb k) (
        lt_of_le_of_lt (and_le_l _ _) (xor_lt w va vb A.value_below B.value_below),
        λ k l. bit-clear n (bit_xor va vb) (bit_or ma mb) k (lt_of_lt_of_le below (pow_mono h)) (lt_of_lt_of_le l h)
            ∙ ap₂ (λ (x y : ℕ). min x (1 - y)) (bit-xor va vb k) (bit-or ma mb k),
      )
