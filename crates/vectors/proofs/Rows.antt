-- What a row covers: its value, with some unknown bits set or all of them, and numbers with a given bit. Assumes nothing.
--   Part r s   the set bits of s are unknown bits of r
use mathlib.Core.Path.{◌≡◌, refl, sym, ap, ◌∙◌}
use mathlib.Core.Logic.{◌⊎◌, inl, inr}
use Prim.Native.Nat.{ℕ, zero, suc, ◌+◌, ◌^◌, ◌≤◌, ◌<◌, min, max}
use native.Mathlib.Nat.{le_refl, lt_of_le_of_lt}
use native.Mathlib.Omega.{arith}
use lib.Bits.{bit_and, bit_or, and_comm, and_lt, and_le_r, or_lt, or_disjoint}
use Rattle.bits.specs.Bit.{bit}
use Rattle.bits.proofs.Bits.{bit-lt, bit-cases, bit-and, bit-or, bit-above, bit-ext, bit-of-zero}
use Rattle.bits.proofs.Numbers.{below-of-bits}
use Rattle.bits.proofs.Words.{le-of-bits}
use Rattle.vectors.specs.Row.{Row, WellFormed, Covers}

-- the least number that a well-formed row covers is its value
pub covers-value : (r : Row) → WellFormed r → Covers r r.value
covers-value r F = record { below = F.value_below; agrees = λ k h e. refl }

-- the greatest
abbrev pub top : Row → ℕ
top r = bit_or r.value r.mask

abbrev pub Part : Row → ℕ → Type 0
Part r s = (k : ℕ) → bit s k ≤ bit r.mask k

pub part-below : (r : Row) (s : ℕ) → WellFormed r → Part r s → s < 2 ^ r.width
part-below r s F h = below-of-bits r.width s (λ k l. let z = bit-above r.width r.mask k F.mask_below l in let y = h k in omega arith)

-- the value with some unknown bits set
pub covers-part : (r : Row) (s : ℕ) → WellFormed r → Part r s → Covers r (bit_or r.value s)
covers-part r s F h =
    record {
      below = or_lt r.width r.value s F.value_below (part-below r s F h);
      agrees = λ k l e. bit-or r.value s k ∙ (let y = h k in omega arith);
    }

pub covers-top : (r : Row) → WellFormed r → Covers r (top r)
covers-top r F = covers-part r r.mask F (λ k. le_refl (bit r.mask k))

-- the bits of a covered number lie between
pub between : (r : Row) (n : ℕ) → WellFormed r → Covers r n → (k : ℕ) → k < r.width → (bit r.value k ≤ bit n k) × (bit n k ≤ bit (top r) k)
between r n F C k h =
    let t = bit-or r.value r.mask k in
    elim (bit-cases r.mask k) [
      | inl e ↦ let z = C.agrees k h e in omega arith
      | inr e ↦ let z = F.apart k e in let l = bit-lt n k in omega arith
    ]

pub value-least : (r : Row) (n : ℕ) → WellFormed r → Covers r n → r.value ≤ n
value-least r n F C = le-of-bits r.width r.value n F.value_below C.below (λ k l. (between r n F C k l).0)

pub top-greatest : (r : Row) (n : ℕ) → WellFormed r → Covers r n → n ≤ top r
top-greatest r n F C = le-of-bits r.width n (top r) C.below (covers-top r F).below (λ k l. (between r n F C k l).1)

-- every covered number is the value with some unknown bits set
pub covered-part : (r : Row) (n : ℕ) → WellFormed r → Covers r n → n ≡ bit_or r.value (bit_and n r.mask)
covered-part r n F C =
    bit-ext r.width n (bit_or r.value (bit_and n r.mask)) C.below
    (or_lt r.width r.value (bit_and n r.mask) F.value_below (lt_of_le_of_lt (and_le_r n r.mask) F.mask_below))
    (λ k l. at k l (bit-cases r.mask k) ∙ sym (bit-or r.value (bit_and n r.mask) k))
  where
    at : (k : ℕ) → k < r.width → (bit r.mask k ≡ 0) ⊎ (bit r.mask k ≡ 1) → bit n k ≡ max (bit r.value k) (bit (bit_and n r.mask) k)
    at k l (inl e) = let z = bit-and n r.mask k in let a = C.agrees k l e in omega arith
    at k l (inr e) = let z = bit-and n r.mask k in let a = F.apart k e in let b = bit-lt n k in omega arith

-- a covered number that has b at bit k
pub covered-bit : (r : Row) → WellFormed r → (k b : ℕ) → b < 2 → (bit r.mask k ≡ 1) ⊎ (bit r.value k ≡ b) → (n : ℕ) × Covers r n × (bit n k ≡ b)
covered-bit r F k b h (inr e) = (r.value, covers-value r F, e)
covered-bit r F k zero h (inl e) = (r.value, covers-value r F, F.apart k e)
covered-bit r F k (suc zero) h (inl e) = (top r, covers-top r F, bit-or r.value r.mask k ∙ (let l = bit-lt r.value k in omega arith))
covered-bit r F k (suc (suc b)) h (inl e) = absurd (omega arith)

-- ---- mask and value share no set bit: as one test on the two words, both ways

pub apart-of-and : (m v k : ℕ) → bit_and m v ≡ 0 → bit m k ≡ 1 → bit v k ≡ 0
apart-of-and m v k e h =
    let z : min (bit m k) (bit v k) ≡ 0 = sym (bit-and m v k) ∙ ap (λ (x : ℕ). bit x k) e ∙ bit-of-zero k in
    let l = bit-lt v k in
    omega arith

pub and-of-apart : (w m v : ℕ) → m < 2 ^ w → v < 2 ^ w → ((k : ℕ) → bit m k ≡ 1 → bit v k ≡ 0) → bit_and m v ≡ 0
and-of-apart w m v hm hv h = bit-ext w (bit_and m v) 0 (and_lt w m v hm hv) (omega arith) (λ k l. bit-and m v k ∙ at k ∙ sym (bit-of-zero k))
  where
    at : (k : ℕ) → min (bit m k) (bit v k) ≡ 0
    at k = elim (bit-cases m k) [ inl e ↦ omega arith | inr e ↦ let z = h k e in omega arith ]

-- ---- unknown bits that are set are added to the value

pub part-sum : (r : Row) (s : ℕ) → WellFormed r → Part r s → bit_or r.value s ≡ r.value + s
part-sum r s F h =
    or_disjoint r.value s (and_comm r.value s
    ∙ and-of-apart r.width s r.value (part-below r s F h) F.value_below (λ k e. F.apart k (let i = h k in let l = bit-lt r.mask k in omega arith)))

pub top-sum : (r : Row) → WellFormed r → top r ≡ r.value + r.mask
top-sum r F = part-sum r r.mask F (λ k. le_refl (bit r.mask k))
