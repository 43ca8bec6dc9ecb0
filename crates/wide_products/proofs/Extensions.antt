-- A vector extended to wt bits, by zeros or by its known top bit, covers the numbers that the covered ones count as, and no others. Assumes nothing.
--   extended-formed                    it is well formed
--   extended-covers, covers-extended   a covered number, extended, is covered; and each number that is covered is one of these
use mathlib.Core.Path.{◌≡◌, refl, sym, ap, ◌∙◌}
use mathlib.Core.Bool.{Bool, true, false}
use mathlib.Core.Logic.{inl, inr}
use Prim.Native.Nat.{ℕ, ◌-◌, ◌%◌, ◌^◌, ◌≤◌, ◌<◌, min}
use native.Mathlib.Nat.{mod-lt, lt_of_lt_of_le}
use native.Mathlib.Decide.{dec_lt}
use native.Mathlib.Omega.{arith}
use lib.Dec.{T}
use lib.Pow.{pow_pos, pow_mono}
use Rattle.bits.specs.Bit.{bit, is_set}
use Rattle.bits.proofs.Bits.{bit-ext, bit-cases, bit-above, bit-number}
use Rattle.bits.proofs.Numbers.{is_set-true, digit-is_set}
use Rattle.bits.proofs.Shifts.{bit-mod}
use Rattle.vectors.specs.Row.{Row, WellFormed, Covers}
use Rattle.operations.specs.Moves.{op_sext}
use Rattle.operations.specs.Wide.{counted_as}
use Rattle.operations.proofs.WideNumbers.{counted-unsigned, counted-signed, counted-below}
use Rattle.wide_products.specs.Apart.{Factor, sign_unknown, extended_row}

-- the bit of a number of w bits that bit k of the extended number is
source : Bool → ℕ → ℕ → ℕ
source false w k = k
source true w k = min k (w - 1)

source-low : (signed : Bool) (w k : ℕ) → k < w → source signed w k ≡ k
unfolding source
source-low false w k h = refl
source-low true w k h = omega arith

counted-bit : (signed : Bool) (wt w n : ℕ) → 1 ≤ w → w ≤ wt → n < 2 ^ w → (k : ℕ) → k < wt → bit (counted_as signed wt w n) k ≡ bit n (source signed w k)
unfolding source op_sext
counted-bit false wt w n l m h k i = ap (λ (x : ℕ). bit x k) (counted-unsigned wt w n)
counted-bit true wt w n l m h k i =
    ap (λ (x : ℕ). bit x k) (counted-signed wt w n l m h) ∙ bit-number wt (λ x. is_set n (min x (w - 1))) k i ∙ digit-is_set n (min k (w - 1))

-- a sign that is not unknown is known
sign-known : (r : Row) → (T (sign_unknown true r) → ⊥) → bit r.mask (r.width - 1) ≡ 0
unfolding sign_unknown
sign-known r K = elim (bit-cases r.mask (r.width - 1)) [ inl e ↦ e | inr e ↦ absurd (K (rw (is_set-true r.mask (r.width - 1) e) tt)) ]

module _ (signed : Bool) (wt : ℕ) (r : Row) (F : Factor wt r) where
  value-bit : (k : ℕ) → k < wt → bit (counted_as signed wt r.width r.value) k ≡ bit r.value (source signed r.width k)
  value-bit = counted-bit signed wt r.width r.value F.least F.most F.formed.value_below

  low_bit : (n k : ℕ) → k < r.width → bit n (source signed r.width k) ≡ bit n k
  low_bit n k h = ap (bit n) (source-low signed r.width k h)

  mask-above : (k : ℕ) → r.width ≤ k → bit r.mask k ≡ 0
  mask-above k l = bit-above r.width r.mask k F.formed.mask_below l

  pub extended-formed : WellFormed (extended_row signed wt r)
  extended-formed =
      record {
        mask_below = lt_of_lt_of_le F.formed.mask_below (pow_mono F.most);
        value_below = counted-below wt r.width r.value F.least F.most F.formed.value_below signed;
        apart = λ k e. elim (dec_lt k r.width) [
          | yes h ↦ (let m = F.most in value-bit k (omega arith)) ∙ low_bit r.value k h ∙ F.formed.apart k e
          | no h ↦ absurd (let z = mask-above k (omega arith) in omega arith)
        ];
      }

  module _ (K : T (sign_unknown signed r) → ⊥) where
    -- at known places, and above the width, a covered number has the value's bits
    agrees : (n : ℕ) → Covers r n → (k : ℕ) → bit r.mask k ≡ 0 → bit n (source signed r.width k) ≡ bit r.value (source signed r.width k)
    unfolding source
    agrees n c k e =
        elim (dec_lt k r.width) [
          | yes h ↦ low_bit n k h ∙ c.agrees k h e ∙ sym (low_bit r.value k h)
          | no h ↦ high signed K (omega arith)
        ]
      where
        high : (s : Bool) → (T (sign_unknown s r) → ⊥) → r.width ≤ k → bit n (source s r.width k) ≡ bit r.value (source s r.width k)
        high false z l = bit-above r.width n k c.below l ∙ sym (bit-above r.width r.value k F.formed.value_below l)
        high true z l =
            let d : min k (r.width - 1) ≡ r.width - 1 = omega arith in
            ap (bit n) d ∙ c.agrees (r.width - 1) (let x = F.least in omega arith) (sign-known r z) ∙ sym (ap (bit r.value) d)

    pub extended-covers : (n : ℕ) → Covers r n → Covers (extended_row signed wt r) (counted_as signed wt r.width n)
    extended-covers n c =
        record {
          below = counted-below wt r.width n F.least F.most c.below signed;
          agrees = λ k h e. counted-bit signed wt r.width n F.least F.most c.below k h ∙ agrees n c k e ∙ sym (value-bit k h);
        }

    pub covers-extended : (x : ℕ) → Covers (extended_row signed wt r) x → Covers r (x % 2 ^ r.width) × (counted_as signed wt r.width (x % 2 ^ r.width) ≡ x)
    covers-extended x c = (low, bit-ext wt _ x (counted-below wt r.width n F.least F.most low.below signed) c.below same)
      where
        n : ℕ
        n = x % 2 ^ r.width

        low : Covers r (x % 2 ^ r.width)
        low =
            record {
              below = mod-lt x (pow_pos r.width);
              agrees = λ k h e. let i : k < wt = (let m = F.most in omega arith) in bit-mod x r.width k h ∙ c.agrees k i e ∙ value-bit k i ∙ low_bit r.value k h;
            }

        same : (k : ℕ) → k < wt → bit (counted_as signed wt r.width (x % 2 ^ r.width)) k ≡ bit x k
        same k h =
            counted-bit signed wt r.width (x % 2 ^ r.width) F.least F.most low.below k h
            ∙ elim (dec_lt k r.width) [
              | yes y ↦ low_bit (x % 2 ^ r.width) k y ∙ bit-mod x r.width k y
              | no y ↦ (let z = mask-above k (omega arith) in agrees (x % 2 ^ r.width) low k z ∙ sym (value-bit k h) ∙ sym (c.agrees k h z))
            ]
