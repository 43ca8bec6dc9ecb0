-- The best vector for the covered numbers between two ends, from the smallest and the largest of them. Assumes nothing.
--   Ends r low high a b e   a is the smallest and b the largest number between the ends; they are the same from bit e on, and differ just below it
use mathlib.Core.Path.{◌≡◌, refl, sym, ap, ◌∙◌}
use Prim.Native.Nat.{ℕ, zero, suc, ◌+◌, ◌-◌, ◌*◌, ◌/◌, ◌^◌, ◌≤◌, ◌<◌, min}
use native.Mathlib.Nat.{suc-mul, lt_of_lt_of_le}
use native.Mathlib.Decide.{dec_lt, ℕ_discrete}
use native.Mathlib.Omega.{arith}
use lib.Pow.{pow_mono, split}
use lib.Bits.{bit_xor}
use Rattle.bits.specs.Bit.{bit}
use Rattle.bits.proofs.Bits.{bit-lt, bit-above, bit-or, bit-and}
use Rattle.bits.proofs.Shifts.{bit-mod, bit-mod-above}
use Rattle.bits.proofs.SameBits.{same-quotient, same_from}
use Rattle.bits.proofs.Numbers.{below-of-bits}
use Rattle.bits.proofs.Words.{low-le, bit-clear}
use Rattle.vectors.specs.Row.{Row, row, WellFormed}
use Rattle.vectors.specs.Hull.{Shows, Hull}
use Rattle.vectors.proofs.Rows.{covers-value, top, covers-top, between}
use Rattle.range_search.specs.Extremes.{Least, Greatest}
use Rattle.range_search.specs.Range.{Between}
use Rattle.range_search.specs.Encoding.{differing, spanned}
use Rattle.range_search.proofs.Differing.{half-shift, length-is, few, differ-at}
use Rattle.range_search.proofs.Splices.{splice, mod_below, splice-under, splice-covers}

-- ---- what each bit shows

record Ends (r : Row) (low high a b e : ℕ) : Type 0 where
  smallest_is : Least (Between r low high) a
  largest_is : Greatest (Between r low high) b
  narrow : e ≤ r.width
  same : a / 2 ^ e ≡ b / 2 ^ e
  differ : (d : ℕ) → e ≡ suc d → (bit a d ≡ 0) × (bit b d ≡ 1)

module _ (r : Row) (F : WellFormed r) (low high a b : ℕ) where
  module _ (d : ℕ) (E : Ends r low high a b (suc d)) where
    A : Between r low high a
    A = E.smallest_is.is_inside

    B : Between r low high b
    B = E.largest_is.is_inside

    gap : b / 2 ^ d * 2 ^ d ≡ a / 2 ^ d * 2 ^ d + 2 ^ d
    unfolding bit
    gap =
        let x : a / 2 ^ d / 2 ≡ b / 2 ^ d / 2 = half-shift a d ∙ E.same ∙ sym (half-shift b d) in
        let u = (E.differ d refl).0 in
        let v = (E.differ d refl).1 in
        let up : b / 2 ^ d ≡ suc (a / 2 ^ d) = omega arith in
        ap (λ (y : ℕ). y * 2 ^ d) up ∙ suc-mul (a / 2 ^ d) (2 ^ d)

    -- as b down to d, below that the vector's least: not above b, and above a
    low-one : Between r low high (splice d b r.value)
    low-one =
        let g = gap in
        let sa = split a d in
        let sb = split b d in
        let la = mod_below d a in
        let n = E.narrow in
        let m = low-le d r.value b (λ k h. (between r b F B.covered k (omega arith)).0) in
        let x = A.from in
        let y = B.to in
        record { covered = splice-covers r d b r.value B.covered (covers-value r F); from = omega arith; to = omega arith }

    -- as a down to d, below that the vector's greatest
    high_one : Between r low high (splice d a (top r))
    high_one =
        let g = gap in
        let sa = split a d in
        let sb = split b d in
        let lt = mod_below d (top r) in
        let n = E.narrow in
        let m = low-le d a (top r) (λ k h. (between r a F A.covered k (omega arith)).1) in
        let x = A.from in
        let y = B.to in
        record { covered = splice-covers r d a (top r) A.covered (covers-top r F); from = omega arith; to = omega arith }

    shows-both : (k : ℕ) → k < suc d → bit r.mask k ≡ 1 → Shows (Between r low high) k 0 × Shows (Between r low high) k 1
    shows-both k h e =
        elim (ℕ_discrete k d) [
          | yes p ↦ (
            record { shown = a; within = A; shows = ap (bit a) p ∙ (E.differ d refl).0 },
            record { shown = b; within = B; shows = ap (bit b) p ∙ (E.differ d refl).1 },
          )
          | no n ↦ (
            record { shown = splice d b r.value; within = low-one; shows = splice-under d b r.value k (omega arith) ∙ F.apart k e },
            record {
              shown = splice d a (top r);
              within = high_one;
              shows = splice-under d a (top r) k (omega arith) ∙ bit-or r.value r.mask k ∙ (let l = bit-lt r.value k in omega arith);
            },
          )
        ]

  shown : (e : ℕ) → Ends r low high a b e → (k : ℕ) → k < e → bit r.mask k ≡ 1 → Shows (Between r low high) k 0 × Shows (Between r low high) k 1
  shown zero E k h z = absurd (omega arith)
  shown (suc d) E k h z = shows-both d E k h z

  -- ---- the vector

  module _ (wide : r.width ≤ 32) (L : Least (Between r low high) a) (G : Greatest (Between r low high) b) where
    abbrev e : ℕ
    e = differing a b

    word : (n : ℕ) → Between r low high n → n < 2 ^ 32
    word n N = lt_of_lt_of_le N.covered.below (pow_mono wide)

    word-a : a < 2 ^ 32
    word-a = word a L.is_inside

    word-b : b < 2 ^ 32
    word-b = word b G.is_inside

    apart_below : bit_xor a b < 2 ^ e
    apart_below = (length-is 32 a b e word-a word-b refl).0

    ends : Ends r low high a b e
    ends =
        record {
          smallest_is = L;
          largest_is = G;
          narrow = few 32 a b e word-a word-b refl r.width L.is_inside.covered.below G.is_inside.covered.below;
          same = same-quotient 32 a b e word-a word-b apart_below;
          differ = differ-at 32 a b e word-a word-b refl (G.greatest a L.is_inside);
        }

    abbrev mask : ℕ
    mask = (spanned r.mask a b).mask

    abbrev value : ℕ
    value = (spanned r.mask a b).value

    mask-above : (k : ℕ) → e ≤ k → bit mask k ≡ 0
    mask-above k l = bit-mod-above r.mask e k l

    value_is : (k : ℕ) → bit value k ≡ min (bit a k) (1 - bit mask k)
    value_is k =
        elim (dec_lt k 32) [
          | yes l ↦ bit-clear 32 a mask k (below-of-bits 32 mask (λ j i. mask-above j (omega arith))) l
          | no l ↦ let z = bit-above 32 a k (word a L.is_inside) (omega arith) in let q = bit-and a (2 ^ 32 - 1 - mask) k in omega arith
        ]

    pub span-hull : Hull r.width (Between r low high) (row r.width mask value)
    span-hull =
        record {
          width_is = refl;
          formed = record {
            mask_below = below-of-bits r.width mask (λ k h. mask-above k (let n = ends.narrow in omega arith));
            value_below = below-of-bits r.width value (λ k h. let z = bit-above r.width a k L.is_inside.covered.below h in let y = value_is k in omega arith);
            apart = λ k z. let y = value_is k in omega arith;
          };
          unknown = λ k h z. elim (dec_lt k e) [
            | yes l ↦ shown e ends k l (sym (bit-mod r.mask e k l) ∙ z)
            | no l ↦ absurd (let y = mask-above k (omega arith) in omega arith)
          ];
          known = λ k h z n N.
              let y = value_is k in
              let t = bit-lt a k in
              let v : bit a k ≡ bit value k = omega arith in
              elim (dec_lt k e) [
                | yes l ↦ let u = sym (bit-mod r.mask e k l) ∙ z in N.covered.agrees k h u ∙ sym (L.is_inside.covered.agrees k h u) ∙ v
                | no l ↦ same_from 32 a b e word-a word-b apart_below n k (L.least n N) (G.greatest n N) (omega arith) ∙ v
              ];
        }
