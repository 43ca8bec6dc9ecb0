-- Unknown bits of two masks taken one by one, from the lowest on. Assumes nothing.
--   taken_next   a turn takes at most one of them, whatever the end below which they are counted
--   taken-end    none stands below the lowest that is left
--   taken_none   none stands anywhere once none is left
use Rattle.std.proofs.Common.{◌≡◌, ℕ, zero, suc, ◌+◌, ◌-◌, ◌/◌, ◌^◌, ◌<◌, ◌≤◌, ◌≢◌, ap, ◌∙◌, inl, inr, arith}
use native.Mathlib.Decide.{ℕ_discrete}
use lib.Bits.{bit_and, bit_or}
use lib.Count.{ones_in, count_trailing_zeros}
use Rattle.bits.specs.Bit.{bit}
use Rattle.bits.proofs.Bits.{bit-lt, bit-zero, bit-suc, bit-cases, bit-and, bit-or, bit-of-zero, ones_in-mono}
use Rattle.bits.proofs.Counts.{ones_in-zero}
use Rattle.bits.proofs.LowestBit.{trailing-bit, clear-other}

-- the bits of n but the one at place i are m's too
less_one : (c n m i : ℕ) → ((k : ℕ) → k ≢ i → bit n k ≤ bit m k) → ones_in c n ≤ ones_in c m + 1
unfolding ones_in
less_one zero n m i h = omega arith
less_one (suc c) n m zero h =
    let r = ones_in-mono c (n / 2) (m / 2) (λ k l. let x = h (suc k) (λ e. omega arith) in let y = bit-suc n k in let z = bit-suc m k in omega arith) in
    omega arith
less_one (suc c) n m (suc i) h =
    let r = less_one c (n / 2) (m / 2) i (λ k d. let x = h (suc k) (λ e. d (omega arith)) in let y = bit-suc n k in let z = bit-suc m k in omega arith) in
    let x = h 0 (λ e. omega arith) in
    let y = bit-zero n in
    let z = bit-zero m in
    omega arith

module _ (a b e : ℕ) (g : e ≡ bit_or a b) (n : e ≢ 0) (l : e < 2 ^ 32) where
  abbrev place : ℕ
  place = count_trailing_zeros 32 e

  -- elsewhere e - 1 has every bit of a and of b
  kept : (k : ℕ) → k ≢ place → (bit a k ≤ bit (e - 1) k) × (bit b k ≤ bit (e - 1) k)
  kept k d =
      let x = bit-and e (e - 1) k in
      let y = clear-other 32 e n l k d in
      let z = ap (λ (s : ℕ). bit s k) g ∙ bit-or a b k in
      (omega arith, omega arith)

  first-kept : (k : ℕ) → k ≢ place → bit a k ≤ bit (bit_and a (e - 1)) k
  first-kept k d = let x = bit-and a (e - 1) k in let y = (kept k d).0 in omega arith

  second-kept : (k : ℕ) → k ≢ place → bit b k ≤ bit (bit_and b (bit_or (e - 1) a)) k
  second-kept k d = let x = bit-and b (bit_or (e - 1) a) k in let y = bit-or (e - 1) a k in let z = (kept k d).1 in omega arith

  pub taken_next : (c : ℕ) → ones_in c a + ones_in c b ≤ ones_in c (bit_and a (e - 1)) + ones_in c (bit_and b (bit_or (e - 1) a)) + 1
  taken_next c = elim (bit-cases a place) [
    | inr f ↦
        let x = less_one c a (bit_and a (e - 1)) place first-kept in
        let y = ones_in-mono c b (bit_and b (bit_or (e - 1) a)) (λ k h. elim (ℕ_discrete k place) [
          | yes i ↦
              let p = bit-and b (bit_or (e - 1) a) k in
              let q = bit-or (e - 1) a k in
              let r = ap (bit a) i in
              let s = bit-lt b k in
              omega arith
          | no i ↦ second-kept k i
        ]) in
        omega arith
    | inl f ↦
        let x = ones_in-mono c a (bit_and a (e - 1)) (λ k h. elim (ℕ_discrete k place) [
          | yes i ↦ let r = ap (bit a) i in omega arith
          | no i ↦ first-kept k i
        ]) in
        let y = less_one c b (bit_and b (bit_or (e - 1) a)) place second-kept in
        omega arith
  ]

none_below : (c n : ℕ) → ((k : ℕ) → k < c → bit n k ≡ 0) → ones_in c n ≡ 0
none_below c n h = let x = ones_in-mono c n 0 (λ k l. let y = h k l in omega arith) in let z = ones_in-zero c in omega arith

pub taken-end : (a b : ℕ) → (ones_in (count_trailing_zeros 32 (bit_or a b)) a ≡ 0) × (ones_in (count_trailing_zeros 32 (bit_or a b)) b ≡ 0)
taken-end a b = (none_below _ a (λ k l. let x = zeros k l in omega arith), none_below _ b (λ k l. let x = zeros k l in omega arith))
  where
    zeros : (k : ℕ) → k < count_trailing_zeros 32 (bit_or a b) → (bit a k ≡ 0) × (bit b k ≡ 0)
    zeros k l = let x = trailing-bit 32 (bit_or a b) k l in let y = bit-or a b k in (omega arith, omega arith)

pub taken_none : (a b : ℕ) → bit_or a b ≡ 0 → (c : ℕ) → (ones_in c a ≡ 0) × (ones_in c b ≡ 0)
taken_none a b e c = (none_below c a (λ k l. let x = zeros k in omega arith), none_below c b (λ k l. let x = zeros k in omega arith))
  where
    zeros : (k : ℕ) → (bit a k ≡ 0) × (bit b k ≡ 0)
    zeros k = let x = ap (λ (n : ℕ). bit n k) e ∙ bit-of-zero k in let y = bit-or a b k in (omega arith, omega arith)
