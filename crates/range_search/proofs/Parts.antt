-- The greatest part of a mask up to a bound is found by taking its bits from the top down, each where it fits. Assumes nothing.
--   part_below k m b     what is taken of the lowest k bits
--   PartBelow k m b s   s is below 2 ^ k, and a part of m up to b
use mathlib.Core.Path.{◌≡◌, refl, sym, ap, ◌∙◌}
use mathlib.Core.Bool.{Bool, cond}
use mathlib.Core.Logic.{◌⊎◌, inl, inr}
use Prim.Native.Nat.{ℕ, zero, suc, ◌+◌, ◌-◌, ◌*◌, ◌%◌, ◌^◌, ◌≤◌, ◌<◌}
use native.Mathlib.Nat.{pow-suc, mod-lt, zero-mul, one-mul}
use native.Mathlib.Decide.{dec_lt}
use native.Mathlib.Omega.{arith}
use borrow.Author.Tests.{le-leb, lt-leb}
use lib.Dec.{leb}
use lib.Pow.{pow_pos}
use Rattle.bits.specs.Bit.{bit}
use Rattle.bits.proofs.Bits.{bit-lt, bit-cases, bit-above, bit-of-zero}
use Rattle.bits.proofs.Shifts.{bit-low, bit_high, bit-mod, bit-mod-above, top_split, top-zero}
use Rattle.bits.proofs.Numbers.{below-of-bits}
use Rattle.range_search.specs.Extremes.{Greatest}
use Rattle.range_search.specs.Encoding.{PartUpTo, taken}

unfoldable pub part_below : ℕ → ℕ → ℕ → ℕ
part_below zero m b = zero
part_below (suc k) m b = taken m k b + part_below k m (b - taken m k b)

record PartBelow (k m b s : ℕ) : Type 0 where
  below : s < 2 ^ k
  up_to : PartUpTo m b s

-- ---- one bit

taken-cases : (m k b : ℕ) → ((taken m k b ≡ 0) × (bit m k ≡ 1 → b < 2 ^ k)) ⊎ ((taken m k b ≡ 2 ^ k) × ((bit m k ≡ 1) × (2 ^ k ≤ b)))
taken-cases m k b =
    elim (bit-cases m k) [
      | inl e ↦ inl (at 0 (ap (λ (x : ℕ). x * 2 ^ k) e ∙ zero-mul (2 ^ k)) ∙ ap (λ (t : Bool). cond t 0 0) (le-leb 0 b (omega arith)), λ o. absurd (omega arith))
      | inr e ↦
          let p = at (2 ^ k) (ap (λ (x : ℕ). x * 2 ^ k) e ∙ one-mul (2 ^ k)) in
          elim (dec_lt b (2 ^ k)) [
            | yes h ↦ inl (p ∙ ap (λ (t : Bool). cond t (2 ^ k) 0) (lt-leb (2 ^ k) b h), λ o. h)
            | no h ↦ inr (p ∙ ap (λ (t : Bool). cond t (2 ^ k) 0) (le-leb (2 ^ k) b (omega arith)), (e, omega arith))
          ]
    ]
  where
    at : (n : ℕ) → bit m k * 2 ^ k ≡ n → taken m k b ≡ cond (leb n b) n 0
    at n e = λ ι. cond (leb (e ι) b) (e ι) 0

pub taken-fits : (m k b : ℕ) → taken m k b ≤ b
taken-fits m k b = elim (taken-cases m k b) [ inl c ↦ (let e = c.0 in omega arith) | inr c ↦ (let e = c.0 in let l = c.1.1 in omega arith) ]

-- ---- the lowest k bits

module _ (k m b t rest : ℕ) (G : Greatest (PartBelow k m (b - t)) rest) where
  skipped : t ≡ 0 → (bit m k ≡ 1 → b < 2 ^ k) → Greatest (PartBelow (suc k) m b) (t + rest)
  skipped e no_room =
      let z : t + rest ≡ rest = omega arith in
      let R = G.is_inside in
      let p = pow-suc 2 k in
      let l = R.below in
      let u = R.up_to.up_to in
      record {
        is_inside = record { below = omega arith; up_to = record { part = rw z R.up_to.part; up_to = omega arith } };
        greatest = λ s S.
            let x = S.up_to.part k in
            let y = S.up_to.up_to in
            let low : s < 2 ^ k = elim (bit-cases s k) [
              | inl o ↦ top-zero s k S.below o
              | inr o ↦ (let i = no_room (let i = bit-lt m k in omega arith) in omega arith)
            ] in
            let g = G.greatest s (record { below = low; up_to = record { part = S.up_to.part; up_to = omega arith } }) in
            omega arith;
      }

  kept : t ≡ 2 ^ k → bit m k ≡ 1 → 2 ^ k ≤ b → Greatest (PartBelow (suc k) m b) (t + rest)
  kept e o room =
      let R = G.is_inside in
      let p = pow-suc 2 k in
      let l = R.below in
      let u = R.up_to.up_to in
      record {
        is_inside = record { below = omega arith; up_to = record { part = bits; up_to = omega arith } };
        greatest = λ s S.
            let y = S.up_to.up_to in
            elim (bit-cases s k) [
              | inl z ↦ (let i = top-zero s k S.below z in omega arith)
              | inr z ↦
                  let split : s ≡ 2 ^ k + s % 2 ^ k = top_split s k S.below ∙ ap (λ (x : ℕ). x * 2 ^ k + s % 2 ^ k) z ∙ ap (λ (x : ℕ). x + s % 2 ^ k) (one-mul (2 ^ k)) in
                  let g = G.greatest (s % 2 ^ k) (record { below = mod-lt s (pow_pos k); up_to = record { part = lower s S.up_to.part; up_to = omega arith } }) in
                  omega arith
            ];
      }
    where
      sum : t + rest ≡ 1 * 2 ^ k + rest
      sum = ap (λ (x : ℕ). x + rest) (e ∙ sym (one-mul (2 ^ k)))

      bits : (j : ℕ) → bit (t + rest) j ≤ bit m j
      bits j =
          elim (dec_lt j k) [
            | yes h ↦ let q = ap (λ (x : ℕ). bit x j) sum ∙ bit-low 1 k rest j h in let i = G.is_inside.up_to.part j in omega arith
            | no h ↦ upper j (j - k) (omega arith)
          ]
        where
          upper : (j i : ℕ) → i + k ≡ j → bit (t + rest) j ≤ bit m j
          upper j zero q = let d = bit-lt (t + rest) j in let c : bit m j ≡ 1 = ap (bit m) (let z : j ≡ k = omega arith in z) ∙ o in omega arith
          upper j (suc i) q =
              let c = ap (λ (x : ℕ). bit x j) sum ∙ ap (bit (1 * 2 ^ k + rest)) (sym q) ∙ bit_high 1 k rest (suc i) G.is_inside.below ∙ bit-above 1 1 (suc i) (omega arith) (omega arith) in
              omega arith

      lower : (s : ℕ) → ((j : ℕ) → bit s j ≤ bit m j) → (j : ℕ) → bit (s % 2 ^ k) j ≤ bit m j
      lower s S j =
          elim (dec_lt j k) [
            | yes h ↦ let q = bit-mod s k j h in let i = S j in omega arith
            | no h ↦ let q = bit-mod-above s k j (omega arith) in omega arith
          ]

greatest-below : (k m b : ℕ) → Greatest (PartBelow k m b) (part_below k m b)
unfolding part_below
greatest-below zero m b =
    record {
      is_inside = record { below = omega arith; up_to = record { part = λ j. (let z = bit-of-zero j in omega arith); up_to = omega arith } };
      greatest = λ s S. let l = S.below in omega arith;
    }
greatest-below (suc k) m b =
    let G = greatest-below k m (b - taken m k b) in
    elim (taken-cases m k b) [
      | inl c ↦ skipped k m b (taken m k b) (part_below k m (b - taken m k b)) G c.0 c.1
      | inr c ↦ kept k m b (taken m k b) (part_below k m (b - taken m k b)) G c.0 c.1.0 c.1.1
    ]

-- all bits: the greatest part
pub greatest-part : (w m b : ℕ) → m < 2 ^ w → Greatest (PartUpTo m b) (part_below w m b)
greatest-part w m b h =
    let G = greatest-below w m b in
    record {
      is_inside = G.is_inside.up_to;
      greatest = λ s S. G.greatest s (record { below = below-of-bits w s (λ k l. let z = bit-above w m k h l in let i = S.part k in omega arith); up_to = S });
    }

-- ---- a turn of the loop: what is taken so far, and what is to come

step : (k m b : ℕ) → part_below (suc k) m b ≡ taken m k b + part_below k m (b - taken m k b)
unfolding part_below
step k m b = refl

pub turn : (k m b part t : ℕ) → 1 ≤ k → t ≡ taken m (k - 1) (b - part) → (part + t) + part_below (k - 1) m (b - (part + t)) ≡ part + part_below k m (b - part)
turn k m b part t h e =
    let up : suc (k - 1) ≡ k = omega arith in
    let left : b - (part + t) ≡ b - part - taken m (k - 1) (b - part) = omega arith in
    let a = ap (part_below (k - 1) m) left in
    let c = sym (step (k - 1) m (b - part)) ∙ ap (λ (j : ℕ). part_below j m (b - part)) up in
    omega arith

pub turns-end : (k m b part : ℕ) → k ≤ 0 → part + part_below k m (b - part) ≡ part
unfolding part_below
turns-end zero m b part h = omega arith
turns-end (suc k) m b part h = absurd (omega arith)
