-- A vector made from the least and the greatest sum is the best one. Assumes nothing.
--   Made w c p q least greatest m v   the mask m and the value v are made of the masks of p and q and the two sums
use Rattle.std.proofs.Common.{◌≡◌, ℕ, ◌+◌, ◌-◌, ◌%◌, ◌^◌, ◌<◌, min, max, List, sym, refl, ap, ◌∙◌, ap₂, inl, inr, lt_of_le_of_lt, mod-lt, arith, pow_pos}
use native.Mathlib.Decide.{dec_lt}
use lib.Pow.{ones_sub-lt}
use lib.Bits.{bit_and, bit_or, bit_xor, differ, and_le_r}
use Rattle.bits.specs.Bit.{bit}
use Rattle.bits.proofs.Bits.{bit-lt, bit-cases, bit-above, bit-and, bit-or, bit-xor}
use Rattle.bits.proofs.Shifts.{bit-mod, bit-same-low}
use Rattle.bits.proofs.SameBits.{differ-cases}
use Rattle.bits.proofs.Constants.{bit-complement}
use Rattle.vectors.specs.Row.{Row, row}
use Rattle.vectors.specs.Choice.{Chosen}
use Rattle.vectors.specs.Best.{best}
use Rattle.vectors.proofs.Rows.{top}
use Rattle.vectors.proofs.Bests.{Gives, best-from-bits}
use Rattle.sums.proofs.Sums.{AsSum, values, tops, sum-bit, settled, same-floor, gives_both, unknown-term}

pub record Made (w c : ℕ) (p q : Row) (least greatest m v : ℕ) : Type 0 where
  pub least_is : least % 2 ^ w ≡ (p.value + q.value + c) % 2 ^ w
  pub greatest_is : greatest % 2 ^ w ≡ (top p + top q + c) % 2 ^ w
  pub mask_is : m ≡ bit_or (bit_or p.mask q.mask) (bit_xor least greatest) % 2 ^ w
  pub value_is : v ≡ bit_and least (2 ^ w - 1 - m)

module _ {w c : ℕ} {p q : Row} {left right f : List ℕ → ℕ} {rows : List Row} {least greatest m v : ℕ} (S : AsSum w c p q left right f rows) (K : Made w c p q least greatest m v) where
  mask_below : m < 2 ^ w
  mask_below = rw K.mask_is (mod-lt _ (pow_pos w))

  value_below : v < 2 ^ w
  value_below = rw K.value_is (lt_of_le_of_lt (and_le_r least (2 ^ w - 1 - m)) (ones_sub-lt w m))

  low : ℕ → ℕ
  low k = bit (p.value + q.value + c) k

  high : ℕ → ℕ
  high k = bit (top p + top q + c) k

  mask-bit : (k : ℕ) → k < w → bit m k ≡ max (max (bit p.mask k) (bit q.mask k)) (differ (low k) (high k))
  unfolding low high
  mask-bit k h =
      ap (λ (n : ℕ). bit n k) K.mask_is
      ∙ bit-mod _ w k h
      ∙ bit-or (bit_or p.mask q.mask) (bit_xor least greatest) k
      ∙ ap₂ max (bit-or p.mask q.mask k)
      (bit-xor least greatest k ∙ ap₂ differ (bit-same-low _ _ w k h K.least_is) (bit-same-low _ _ w k h K.greatest_is))

  value-bit : (k : ℕ) → k < w → bit v k ≡ min (low k) (1 - bit m k)
  unfolding low
  value-bit k h =
      ap (λ (n : ℕ). bit n k) K.value_is
      ∙ bit-and least (2 ^ w - 1 - m) k
      ∙ ap₂ min (bit-same-low _ _ w k h K.least_is) (bit-complement w m k mask_below h)

  apart : (k : ℕ) → bit m k ≡ 1 → bit v k ≡ 0
  apart k e = elim (dec_lt k w) [ yes h ↦ value-bit k h ∙ (omega arith) | no h ↦ bit-above w v k value_below (omega arith) ]

  unknown : (k : ℕ) → k < w → bit m k ≡ 1 → Gives f rows k 0 × Gives f rows k 1
  unfolding low high
  unknown k h e =
      let z = sym (mask-bit k h) ∙ e in
      elim (bit-cases p.mask k) [
        | inr x ↦ unknown-term S k h (inl x)
        | inl x ↦ elim (bit-cases q.mask k) [
          | inr y ↦ unknown-term S k h (inr y)
          | inl y ↦ elim (differ-cases (low k) (high k) (bit-lt _ k) (bit-lt _ k)) [
            | inl d ↦ absurd (omega arith)
            | inr d ↦ gives_both S k h p.value q.value (top p) (top q) (values S) (tops S) d.0
          ]
        ]
      ]

  known : (k : ℕ) → k < w → bit m k ≡ 0 → (ns : List ℕ) → Chosen rows ns → bit (f ns) k ≡ bit v k
  unfolding low high
  known k h e ns C =
      let z = sym (mask-bit k h) ∙ e in
      let same : low k ≡ high k = elim (differ-cases (low k) (high k) (bit-lt _ k) (bit-lt _ k)) [ inl d ↦ d.0 | inr d ↦ absurd (omega arith) ] in
      let floors = same-floor S k h (omega arith) (omega arith) p.value q.value (top p) (top q) (values S) (tops S) same in
      let t : low k ≡ min (low k) (1 - bit m k) = omega (arith, bit-lt (p.value + q.value + c) k) in
      sum-bit S k h ns C
      ∙ settled S k h floors (left ns) (right ns) (S.terms ns C)
      ∙ sym (settled S k h floors p.value q.value (values S))
      ∙ t
      ∙ sym (value-bit k h)

  pub made-best : row w m v ≡ best w f rows
  made-best =
      best-from-bits S.rows_formed (record {
        width_is = refl;
        formed = record { mask_below = mask_below; value_below = value_below; apart = apart };
        unknown = unknown;
        known = known;
      })
