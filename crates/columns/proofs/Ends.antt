-- The words of the columns below an end and from an end on. Assumes nothing.
--   below-lowest-set          the ones below the lowest set bit
--   known-below, known_from   words of known columns
use Rattle.std.proofs.Common.{◌≡◌, ℕ, suc, ◌+◌, ◌-◌, ◌*◌, ◌/◌, ◌%◌, ◌^◌, ◌<◌, ◌≤◌, min, sym, refl, ap, ◌∙◌, ap₂, lt_of_le_of_lt, pow-suc, arith, pow_pos, pow_mono}
use native.Mathlib.Decide.{dec_lt, ℕ_discrete}
use lib.Pow.{split}
use lib.Bits.{bit_and, and_le_l, and_self}
use lib.Count.{count_trailing_zeros}
use Rattle.bits.specs.Bit.{bit}
use Rattle.bits.proofs.Bits.{bit-lt, bit-ext}
use Rattle.bits.proofs.Constants.{bit-complement, bit-ones, bit-ones-above}
use Rattle.bits.proofs.Shifts.{bit-low, bit_high, mod-pow-suc}
use Rattle.bits.proofs.Words.{bit-clear}
use Rattle.bits.proofs.LowestBit.{lowest, trailing-bit}
use Rattle.columns.specs.Settled.{KnownBelow, KnownFrom, AllKnown}
use Rattle.columns.proofs.Untouched.{low-zero}

-- ---- the ones below the lowest set bit

module _ (n : ℕ) (h : n < 2 ^ 32) (z : n ≡ 0 → ⊥) where
  abbrev place : ℕ
  place = count_trailing_zeros 32 n

  abbrev above : ℕ
  above = n / 2 ^ suc place

  -- n is what stands above its lowest bit, and that bit
  parts : n ≡ above * 2 ^ suc place + 2 ^ place
  parts =
      let e = split n (suc place) in
      let f = mod-pow-suc n place in
      let g = low-zero n place (trailing-bit 32 n) in
      let i = (lowest 32 n z h).1 in
      let j : bit n place * 2 ^ place ≡ 2 ^ place = ap (λ (b : ℕ). b * 2 ^ place) i ∙ omega arith in
      omega arith

  less : n - 1 ≡ above * 2 ^ suc place + (2 ^ place - 1)
  less = let p = pow_pos place in let e = parts in omega arith

  at : (k : ℕ) → min (bit (n - 1) k) (1 - bit n k) ≡ bit (2 ^ place - 1) k
  at k = elim (dec_lt k place) [
    | yes l ↦
        let a = ap (λ (x : ℕ). bit x k) less ∙ bit-low above (suc place) (2 ^ place - 1) k (omega arith) ∙ bit-ones place k l in
        let b = trailing-bit 32 n k l in
        let c = bit-ones place k l in
        omega arith
    | no l ↦ elim (ℕ_discrete k place) [
      | yes e ↦
          let b = ap (bit n) e ∙ (lowest 32 n z h).1 in
          let c = bit-ones-above place k (omega arith) in
          omega arith
      | no d ↦
          let e : k ≡ k - suc place + suc place = omega arith in
          let p = pow_pos place in
          let q = pow-suc 2 place in
          let a = ap₂ bit less e ∙ bit_high above (suc place) (2 ^ place - 1) (k - suc place) (omega arith) in
          let b = ap₂ bit parts e ∙ bit_high above (suc place) (2 ^ place) (k - suc place) (omega arith) in
          let c = bit-ones-above place k (omega arith) in
          let f = bit-lt above (k - suc place) in
          omega arith
    ]
  ]

  cleared : bit_and (n - 1) (2 ^ 32 - 1 - n) ≡ 2 ^ place - 1
  cleared =
      let p = pow_pos place in
      let q : 2 ^ place ≤ 2 ^ 32 = pow_mono {j = 32} (let t = (lowest 32 n z h).0 in omega arith) in
      bit-ext 32 (bit_and (n - 1) (2 ^ 32 - 1 - n)) (2 ^ place - 1) (lt_of_le_of_lt (and_le_l (n - 1) (2 ^ 32 - 1 - n)) (omega arith)) (omega arith)
      (λ k l. bit-clear 32 (n - 1) n k h l ∙ at k)

none-set : count_trailing_zeros 32 0 ≡ 32
unfolding count_trailing_zeros
none-set = refl

pub below-lowest-set : (n d : ℕ) → n < 2 ^ 32 → d < 2 ^ 32 → (d + 1) % 2 ^ 32 ≡ n → bit_and d (2 ^ 32 - 1 - n) ≡ 2 ^ count_trailing_zeros 32 n - 1
below-lowest-set n d h i e = elim (ℕ_discrete n 0) [
  | yes z ↦
      let f : d ≡ 2 ^ 32 - 1 = omega arith in
      let g : 2 ^ 32 - 1 - n ≡ 2 ^ 32 - 1 = omega arith in
      ap₂ bit_and f g ∙ and_self (2 ^ 32 - 1) ∙ ap (λ (t : ℕ). 2 ^ t - 1) (sym (ap (count_trailing_zeros 32) z ∙ none-set))
  | no z ↦ let f : d ≡ n - 1 = omega arith in ap (λ (x : ℕ). bit_and x (2 ^ 32 - 1 - n)) f ∙ cleared n h z
]

-- ---- known columns

pub known-below : (ma va mb vb i m : ℕ) → m ≡ 2 ^ i - 1 → KnownBelow ma va mb vb i → AllKnown ma va mb vb m
known-below ma va mb vb i m e p w F k g h = elim (dec_lt k i) [
  | yes l ↦ p w F k l h
  | no l ↦ let z = ap (λ (x : ℕ). bit x k) e ∙ bit-ones-above i k (omega arith) in absurd (omega arith)
]

-- the columns that are not below an end
from_end : (j n k : ℕ) → n ≡ 2 ^ min j 32 - 1 → k < 32 → bit (2 ^ 32 - 1 - n) k ≡ 1 → j ≤ k
from_end j n k e h f = elim (dec_lt k (min j 32)) [
  | yes l ↦
      let z = ap (λ (x : ℕ). bit x k) e ∙ bit-ones (min j 32) k l in
      let y = bit-complement 32 n k (let p = pow_pos (min j 32) in let q : 2 ^ min j 32 ≤ 2 ^ 32 = pow_mono {j = 32} (omega arith) in omega arith) h in
      absurd (omega arith)
  | no l ↦ omega arith
]

pub known_from : (ma va mb vb j n : ℕ) → n ≡ 2 ^ min j 32 - 1 → KnownFrom ma va mb vb j → AllKnown ma va mb vb (2 ^ 32 - 1 - n)
known_from ma va mb vb j n e p w F k g h = let o = F.most in p w F k (from_end j n k e (omega arith) g) h
