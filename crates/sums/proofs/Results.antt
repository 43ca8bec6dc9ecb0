-- What the three kernels make of words of v bits is the kind's result. Assumes nothing.
use Rattle.std.proofs.Common.{◌≡◌, ℕ, ◌+◌, ◌-◌, ◌%◌, ◌^◌, ◌≤◌, [], ◌∷◌, sym, ap, ◌∙◌, add-zero}
use lib.Bits.{bit_and, bit_or, bit_xor, or_zero_l}
use Rattle.vectors.specs.Row.{row}
use Rattle.vectors.proofs.Rows.{covers-top}
use Rattle.operations.specs.Arithmetic.{op_add, op_sub, op_neg}
use Rattle.operations.specs.Result.{result_of, Ready}
use Rattle.sums.proofs.Complements.{top-complement}
use Rattle.bits.proofs.Words.{cut_twice}
use Rattle.bits.proofs.Words.{sub-cut}
use Rattle.sums.proofs.AsSums.{add-sum, sub-sum, neg_sum}
use Rattle.sums.proofs.Kernels.{made-best}

-- what `from_extremes` ensures of its mask m and value x
abbrev pub FromExtremes : ℕ → ℕ → ℕ → ℕ → ℕ → ℕ → Type 0
FromExtremes w unknown least greatest m x = (m ≡ bit_or unknown (bit_xor least greatest) % 2 ^ w) × (x ≡ bit_and least (2 ^ w - 1 - m))

module _ (w v : ℕ) (h : w ≤ v) where
  module _ (ma va mb vb least greatest m x : ℕ) (E : FromExtremes w (bit_or ma mb) least greatest m x) where
    pub add-result : Ready op_add w 0 (row w ma va ∷ row w mb vb ∷ []) → least ≡ (va + vb) % 2 ^ v → greatest ≡ (bit_or va ma + bit_or vb mb) % 2 ^ v
        → row w m x ≡ result_of op_add w 0 (row w ma va ∷ row w mb vb ∷ [])
    unfolding result_of
    add-result R l g =
        made-best (add-sum w ma va mb vb R)
        (record { least_is = cut (va + vb) least l; greatest_is = cut (bit_or va ma + bit_or vb mb) greatest g; mask_is = E.0; value_is = E.1 })
      where
        cut : (s n : ℕ) → n ≡ s % 2 ^ v → n % 2 ^ w ≡ (s + 0) % 2 ^ w
        cut s n e = ap (λ (y : ℕ). y % 2 ^ w) e ∙ cut_twice w v s h ∙ ap (λ (y : ℕ). y % 2 ^ w) (sym (add-zero s))

    pub sub-result : Ready op_sub w 0 (row w ma va ∷ row w mb vb ∷ []) → (least + bit_or vb mb) % 2 ^ v ≡ va → (greatest + vb) % 2 ^ v ≡ bit_or va ma
        → row w m x ≡ result_of op_sub w 0 (row w ma va ∷ row w mb vb ∷ [])
    unfolding result_of
    sub-result R l g =
        let b = row w mb vb in
        let F = R.formed.1.0 in
        made-best {greatest = greatest} (sub-sum w ma va mb vb R)
        (record {
          least_is = sub-cut w v least va (bit_or vb mb) h (covers-top b F).below l;
          greatest_is = rw (top-complement b F) (sub-cut w v greatest (bit_or va ma) vb h F.value_below g);
          mask_is = E.0;
          value_is = E.1;
        })

  pub neg-result : (m₀ v₀ least greatest m x : ℕ) → FromExtremes w m₀ least greatest m x → Ready op_neg w 0 (row w m₀ v₀ ∷ [])
      → (least + bit_or v₀ m₀) % 2 ^ v ≡ 0 → (greatest + v₀) % 2 ^ v ≡ 0 → row w m x ≡ result_of op_neg w 0 (row w m₀ v₀ ∷ [])
  unfolding result_of
  neg-result m₀ v₀ least greatest m x E R l g =
      let a = row w m₀ v₀ in
      let F = R.formed.0 in
      made-best {greatest = greatest} (neg_sum w m₀ v₀ R)
      (record {
        least_is = sub-cut w v least 0 (bit_or v₀ m₀) h (covers-top a F).below l;
        greatest_is = rw (or_zero_l 0, top-complement a F) (sub-cut w v greatest 0 v₀ h F.value_below g);
        mask_is = rw (or_zero_l m₀) E.0;
        value_is = E.1;
      })
