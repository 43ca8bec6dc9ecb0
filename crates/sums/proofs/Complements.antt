-- The complement of a vector covers the complements of what the vector covers: a - b is a + (2 ^ w - 1 - b) + 1 modulo 2 ^ w. Assumes nothing.
--   opposite w n    2 ^ w - 1 - n, all w bits of n turned over
--   complement r    the vector of the opposite numbers
use Rattle.std.proofs.Common.{◌≡◌, ℕ, ◌-◌, ◌%◌, ◌^◌, ◌<◌, ◌≤◌, max, sym, ap, ◌∙◌, inl, inr, mod-lt, arith, pow_pos}
use native.Mathlib.Decide.{dec_lt}
use lib.Pow.{ones_sub-lt}
use Rattle.bits.specs.Bit.{bit}
use Rattle.bits.proofs.Bits.{bit-lt, bit-cases, bit-above, bit-ext, bit-or}
use Rattle.bits.proofs.Shifts.{bit-mod}
use Rattle.bits.proofs.Constants.{bit-complement}
use Rattle.vectors.specs.Row.{Row, row, WellFormed, Covers}
use Rattle.vectors.proofs.Rows.{top, covers-top}

abbrev pub opposite : ℕ → ℕ → ℕ
opposite w n = 2 ^ w - 1 - n

-- of the lowest bits
pub opposite-low : (w k n : ℕ) → n < 2 ^ w → k ≤ w → opposite w n % 2 ^ k ≡ opposite k (n % 2 ^ k)
opposite-low w k n h l =
    bit-ext k (opposite w n % 2 ^ k) (opposite k (n % 2 ^ k)) (mod-lt (opposite w n) (pow_pos k)) (ones_sub-lt k (n % 2 ^ k))
    (λ j i.
    bit-mod (opposite w n) k j i
    ∙ bit-complement w n j h (omega arith)
    ∙ ap (λ (x : ℕ). 1 - x) (sym (bit-mod n k j i))
    ∙ sym (bit-complement k (n % 2 ^ k) j (mod-lt n (pow_pos k)) i))

abbrev pub complement : Row → Row
complement r = row r.width r.mask (opposite r.width (top r))

module _ (r : Row) (F : WellFormed r) where
  value-bit : (k : ℕ) → k < r.width → bit (complement r).value k ≡ 1 - max (bit r.value k) (bit r.mask k)
  value-bit k h = bit-complement r.width (top r) k (covers-top r F).below h ∙ ap (λ (x : ℕ). 1 - x) (bit-or r.value r.mask k)

  pub complement-formed : WellFormed (complement r)
  complement-formed =
      record {
        mask_below = F.mask_below;
        value_below = ones_sub-lt r.width (top r);
        apart = λ k e. elim (dec_lt k r.width) [
          | yes h ↦ value-bit k h ∙ (let l = bit-lt r.value k in omega arith)
          | no h ↦ bit-above r.width _ k (ones_sub-lt r.width (top r)) (omega arith)
        ];
      }

  pub covers-opposite : (n : ℕ) → Covers r n → Covers (complement r) (opposite r.width n)
  covers-opposite n C =
      record {
        below = ones_sub-lt r.width n;
        agrees = λ k h e. bit-complement r.width n k C.below h ∙ (let z = C.agrees k h e in omega arith) ∙ sym (value-bit k h);
      }

  pub opposite-covers : (n : ℕ) → Covers (complement r) n → Covers r (opposite r.width n)
  opposite-covers n C =
      record {
        below = ones_sub-lt r.width n;
        agrees = λ k h e.
            bit-complement r.width n k C.below h
            ∙ (let z = C.agrees k h e in let v = value-bit k h in let l = bit-lt r.value k in omega arith);
      }

  -- the greatest number of the complement is the opposite of the least
  pub top-complement : top (complement r) ≡ opposite r.width r.value
  top-complement =
      bit-ext r.width (top (complement r)) (opposite r.width r.value) (covers-top (complement r) complement-formed).below
      (ones_sub-lt r.width r.value) same
    where
      same : (k : ℕ) → k < r.width → bit (top (complement r)) k ≡ bit (opposite r.width r.value) k
      same k h =
          bit-or (complement r).value r.mask k
          ∙ (let v = value-bit k h in elim (bit-cases r.mask k) [
            | inl e ↦ omega arith
            | inr e ↦ let z = F.apart k e in omega arith
          ])
          ∙ sym (bit-complement r.width r.value k F.value_below h)
