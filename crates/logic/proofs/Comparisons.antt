-- The tests of eq, ult and slt on words give the kinds' results, for every width. Assumes nothing.
use Rattle.std.proofs.Common.{◌≡◌, ℕ, ◌≤◌, not, eqb, ltb, leb, [], ◌∷◌, get_or, sym, ap, ◌∙◌}
use lib.Bits.{bit_or}
use Rattle.bits.specs.Bit.{digit}
use Rattle.vectors.specs.Row.{row}
use Rattle.vectors.proofs.BestLaws.{best-ext}
use Rattle.operations.specs.Arithmetic.{op_eq, op_ult, op_slt}
use Rattle.operations.specs.Result.{result_of, Ready}
use Rattle.vectors.proofs.Operands.{chosen_at}
use Rattle.logic.proofs.Tests.{Tested}
use Rattle.logic.proofs.Equality.{clash, loose, equality-best}
use Rattle.logic.proofs.Orders.{less, unsigned, orders-best}
use Rattle.logic.proofs.Signed.{flip, flipped, signed}
use Rattle.logic.proofs.SignedOrder.{slt-key}

module _ (w ma va mb vb m v : ℕ) where
  pub eq-result : (n : ℕ) → w ≤ n → Ready op_eq 1 0 (row w ma va ∷ row w mb vb ∷ []) → Tested (not (eqb (loose ma va mb vb) 0)) (eqb (clash n ma va mb vb) 0) m v
      → row 1 m v ≡ result_of op_eq 1 0 (row w ma va ∷ row w mb vb ∷ [])
  unfolding op_eq result_of
  eq-result n h R = equality-best w n ma va mb vb h R.formed.0 R.formed.1.0 m v

  pub ult-result : Ready op_ult 1 0 (row w ma va ∷ row w mb vb ∷ []) → Tested (leb vb (bit_or va ma)) (ltb va (bit_or vb mb)) m v
      → row 1 m v ≡ result_of op_ult 1 0 (row w ma va ∷ row w mb vb ∷ [])
  unfolding op_ult result_of
  ult-result R =
      let A = R.formed.0 in
      let B = R.formed.1.0 in
      orders-best (λ x. x) (row w ma va) (row w mb vb) va (bit_or va ma) vb (bit_or vb mb) m v A B (unsigned (row w ma va) A) (unsigned (row w mb vb) B)

  -- la and lb are the least keys
  pub slt-result : (n la lb : ℕ) → w ≤ n → Ready op_slt 1 0 (row w ma va ∷ row w mb vb ∷ []) → la ≡ flipped w n ma va → lb ≡ flipped w n mb vb
      → Tested (leb lb (bit_or la ma)) (ltb la (bit_or lb mb)) m v → row 1 m v ≡ result_of op_slt 1 0 (row w ma va ∷ row w mb vb ∷ [])
  unfolding op_slt result_of
  slt-result n la lb h R d e t =
      let A = R.formed.0 in
      let B = R.formed.1.0 in
      let l = R.widths.0 in
      orders-best (flip w) (row w ma va) (row w mb vb) la (bit_or la ma) lb (bit_or lb mb) m v A B (rw d (signed w n ma va l h A)) (rw e (signed w n mb vb l h B)) t
      ∙ sym (best-ext 1 _ (λ ns. digit (less (flip w) ns)) (row w ma va ∷ row w mb vb ∷ []) R.formed (λ ns c.
      ap digit (slt-key w (get_or ns 0 0) (get_or ns 1 0) l (chosen_at (row w ma va ∷ row w mb vb ∷ []) ns c 0).below (chosen_at (row w ma va ∷ row w mb vb ∷ []) ns c 1).below)))
