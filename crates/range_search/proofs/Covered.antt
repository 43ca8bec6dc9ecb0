-- A covered number is the value and a part of the mask, or value and mask less a part of it: the smallest one from an end on, and the largest one up to an end. Assumes nothing.
use mathlib.Core.Path.{◌≡◌, ◌∙◌, subst}
use mathlib.Core.Logic.{inl, inr}
use Prim.Native.Nat.{ℕ, ◌+◌, ◌-◌, ◌≤◌}
use native.Mathlib.Omega.{arith}
use lib.Bits.{bit_and, bit_xor, and_lt, xor_add_and}
use Rattle.bits.specs.Bit.{bit}
use Rattle.bits.proofs.Bits.{bit-lt, bit-ext, bit-and, bit-xor}
use Rattle.bits.proofs.SameBits.{differ-cases}
use Rattle.vectors.specs.Row.{Row, WellFormed, Covers}
use Rattle.vectors.proofs.Rows.{top, Part, part-below, covers-part, covered-part, part-sum, top-sum}
use Rattle.range_search.specs.Extremes.{Least, Greatest}
use Rattle.range_search.specs.Encoding.{PartUpTo}

module _ (r : Row) (F : WellFormed r) where
  -- ---- the value and a part

  sum-covers : (s : ℕ) → Part r s → Covers r (r.value + s)
  sum-covers s P = subst (Covers r) (part-sum r s F P) (covers-part r s F P)

  common : (n : ℕ) → Part r (bit_and n r.mask)
  common n k = let e = bit-and n r.mask k in omega arith

  as-sum : (n : ℕ) → Covers r n → n ≡ r.value + bit_and n r.mask
  as-sum n C = covered-part r n F C ∙ part-sum r (bit_and n r.mask) F (common n)

  -- ---- value and mask less a part

  others : (s : ℕ) → Part r s → Part r (bit_xor r.mask s)
  others s P k =
      let e = bit-xor r.mask s k in
      elim (differ-cases (bit r.mask k) (bit s k) (bit-lt r.mask k) (bit-lt s k)) [
        | inl c ↦ (let z = c.1 in omega arith)
        | inr c ↦ (let z = c.0 in let y = c.1 in let i = P k in omega arith)
      ]

  others-sum : (s : ℕ) → Part r s → bit_xor r.mask s + s ≡ r.mask
  others-sum s P = let x = xor_add_and r.mask s in let y = inside in omega arith
    where
      inside : bit_and r.mask s ≡ s
      inside =
          bit-ext r.width (bit_and r.mask s) s (and_lt r.width r.mask s F.mask_below (part-below r s F P)) (part-below r s F P)
          (λ k l. bit-and r.mask s k ∙ (let i = P k in omega arith))

  less-covers : (s : ℕ) → Part r s → Covers r (top r - s)
  less-covers s P =
      let w = top-sum r F in
      let o = others-sum s P in
      let e : r.value + bit_xor r.mask s ≡ top r - s = omega arith in
      subst (Covers r) e (sum-covers (bit_xor r.mask s) (others s P))

  -- ---- the two extremes

  pub smallest-from : (low s : ℕ) → low ≤ top r → Greatest (PartUpTo r.mask (top r - low)) s → Least (λ n. Covers r n × (low ≤ n)) (top r - s)
  smallest-from low s h G =
      let u = G.is_inside.up_to in
      record {
        is_inside = (less-covers s G.is_inside.part, omega arith);
        least = λ n N.
            let l = N.1 in
            let w = top-sum r F in
            let e = as-sum n N.0 in
            let o = others-sum (bit_and n r.mask) (common n) in
            let g = G.greatest (bit_xor r.mask (bit_and n r.mask)) (record { part = others (bit_and n r.mask) (common n); up_to = omega arith }) in
            omega arith;
      }

  pub largest-to : (high s : ℕ) → r.value ≤ high → Greatest (PartUpTo r.mask (high - r.value)) s → Greatest (λ n. Covers r n × (n ≤ high)) (r.value + s)
  largest-to high s h G =
      let u = G.is_inside.up_to in
      record {
        is_inside = (sum-covers s G.is_inside.part, omega arith);
        greatest = λ n N.
            let l = N.1 in
            let e = as-sum n N.0 in
            let g = G.greatest (bit_and n r.mask) (record { part = common n; up_to = omega arith }) in
            omega arith;
      }
