-- Where each output bit of a kind that moves bits comes from, for every width. Assumes nothing.
use Rattle.std.proofs.Common.{◌≡◌, ℕ, ◌+◌, ◌-◌, ◌<◌, ◌≤◌, min, [], ◌∷◌, get_or, refl, ◌∙◌, inl, inr, arith}
use native.Mathlib.Decide.{dec_lt}
use Rattle.bits.proofs.Bits.{bit-above}
use Rattle.operations.specs.Bitwise.{op_copy}
use Rattle.operations.specs.Moves.{op_shl, op_lshr, op_ashr, op_extract, op_concat, op_zext, op_sext}
use Rattle.operations.proofs.Bounded.{below_at}
use Rattle.operations.proofs.MovedBits.{shl-low, shl-high, lshr-bit, extract-bit, concat-low, concat-high}
use Rattle.operations.proofs.SmtBits.{bit-of}
use Rattle.logic.proofs.Moving.{Moved}

-- copy and zext: the operand's bits, above them 0
keep : (wa k : ℕ) → Moved (λ ns. get_or ns 0 0) (wa ∷ []) k
keep wa k =
    elim (dec_lt k wa) [
      | yes y ↦ inr (record { operand = 0; place = k; inside = y; moves = λ ns b. refl })
      | no n ↦ inl (λ ns b. bit-above wa (get_or ns 0 0) k (below_at (wa ∷ []) ns b 0) (omega arith))
    ]

pub copy-moved : (w k : ℕ) → k < w → Moved (op_copy.plain w (w ∷ []) 0) (w ∷ []) k
unfolding op_copy
copy-moved w k l = keep w k

pub zext-moved : (wt wa k : ℕ) → k < wt → Moved (op_zext.plain wt (wa ∷ []) 0) (wa ∷ []) k
unfolding op_zext
zext-moved wt wa k l = keep wa k

pub shl-moved : (w p k : ℕ) → k < w → Moved (op_shl.plain w (w ∷ []) p) (w ∷ []) k
shl-moved w p k l =
    elim (dec_lt k p) [
      | yes y ↦ inl (λ ns b. shl-low w p (w ∷ []) ns k l y)
      | no n ↦ inr (record { operand = 0; place = k - p; inside = omega arith; moves = λ ns b. shl-high w p (w ∷ []) ns k l (omega arith) })
    ]

pub lshr-moved : (w p k : ℕ) → k < w → Moved (op_lshr.plain w (w ∷ []) p) (w ∷ []) k
lshr-moved w p k l =
    elim (dec_lt (k + p) w) [
      | yes y ↦ inr (record { operand = 0; place = k + p; inside = y; moves = λ ns b. lshr-bit w p (w ∷ []) ns k })
      | no n ↦ inl (λ ns b. lshr-bit w p (w ∷ []) ns k ∙ bit-above w (get_or ns 0 0) (k + p) (below_at (w ∷ []) ns b 0) (omega arith))
    ]

pub extract-moved : (wt wa p : ℕ) → p + wt ≤ wa → (k : ℕ) → k < wt → Moved (op_extract.plain wt (wa ∷ []) p) (wa ∷ []) k
extract-moved wt wa p h k l = inr (record { operand = 0; place = k + p; inside = omega arith; moves = λ ns b. extract-bit wt p (wa ∷ []) ns k l })

pub ashr-moved : (w p : ℕ) → 1 ≤ w → (k : ℕ) → k < w → Moved (op_ashr.plain w (w ∷ []) p) (w ∷ []) k
unfolding op_ashr
ashr-moved w p h k l =
    inr (record {
      operand = 0;
      place = min (k + p) (w - 1);
      inside = omega arith;
      moves = λ ns b. bit-of w (get_or ns 0 0) (λ x. min (x + p) (w - 1)) k l;
    })

pub sext-moved : (wt wa : ℕ) → 1 ≤ wa → (k : ℕ) → k < wt → Moved (op_sext.plain wt (wa ∷ []) 0) (wa ∷ []) k
unfolding op_sext
sext-moved wt wa h k l =
    inr (record {
      operand = 0;
      place = min k (wa - 1);
      inside = omega arith;
      moves = λ ns b. bit-of wt (get_or ns 0 0) (λ x. min x (wa - 1)) k l;
    })

pub concat-moved : (wt wa wb : ℕ) → wt ≡ wa + wb → (k : ℕ) → k < wt → Moved (op_concat.plain wt (wa ∷ wb ∷ []) 0) (wa ∷ wb ∷ []) k
concat-moved wt wa wb h k l =
    elim (dec_lt k wb) [
      | yes y ↦ inr (record { operand = 1; place = k; inside = y; moves = λ ns b. concat-low wt 0 (wa ∷ wb ∷ []) ns k y })
      | no n ↦ inr (record {
        operand = 0;
        place = k - wb;
        inside = omega arith;
        moves = λ ns b. concat-high wt 0 (wa ∷ wb ∷ []) ns k (below_at (wa ∷ wb ∷ []) ns b 1) (omega arith);
      })
    ]
