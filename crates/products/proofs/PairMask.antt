-- The pair mask of algorithm 2 of document 002, line 13. Assumes nothing.
--   mask-doubly, doubly-mask   bit i is 1 exactly where pair i is unknown on both sides
--   other-bit                  a number with bit i set is 2 ^ i, or has another bit set
use mathlib.Core.Path.{◌≡◌, sym, ap, ◌∙◌}
use mathlib.Core.Logic.{◌⊎◌, inl, inr, ◌≢◌}
use Prim.Native.Nat.{ℕ, zero, suc, ◌+◌, ◌-◌, ◌^◌, ◌<◌, min}
use native.Mathlib.Nat.{eq-or-lt_of_le, le_of_suc-le-suc}
use native.Mathlib.Decide.{dec_lt, ℕ_discrete}
use native.Mathlib.Omega.{arith}
use lib.Pow.{pow-lt}
use lib.Bits.{bit_and}
use Rattle.bits.specs.Bit.{bit}
use Rattle.bits.specs.Reversed.{reversed}
use Rattle.bits.proofs.Bits.{bit-lt, bit-above, bit-cases, bit-ext, bit-and, bit-of-zero}
use Rattle.bits.proofs.Constants.{bit-pow, bit-pow-other}
use Rattle.bits.proofs.Reversed.{reversed-below}
use Rattle.products.specs.Rule.{DoublyUnknown}
use Rattle.products.proofs.Masks.{bit-partner}

module _ (k ma mb : ℕ) where
  pub mask-doubly : (i : ℕ) → bit (bit_and ma (reversed (k + 1) mb)) i ≡ 1 → DoublyUnknown k ma mb i
  mask-doubly i e = go (dec_lt i (k + 1))
    where
      both : min (bit ma i) (bit (reversed (k + 1) mb) i) ≡ 1
      both = sym (bit-and ma (reversed (k + 1) mb) i) ∙ e

      go : Dec (i < k + 1) → DoublyUnknown k ma mb i
      go (yes h) =
          let p = bit-partner k mb i (omega arith) in
          let x = bit-lt ma i in
          let y = bit-lt mb (k - i) in
          record { within = omega arith; first = omega (arith, both); second = omega (arith, both) }
      go (no h) = absurd (omega (arith, both, bit-above (k + 1) (reversed (k + 1) mb) i (reversed-below (k + 1) mb) (omega arith)))

  pub doubly-mask : (i : ℕ) → DoublyUnknown k ma mb i → bit (bit_and ma (reversed (k + 1) mb)) i ≡ 1
  doubly-mask i d = bit-and ma (reversed (k + 1) mb) i ∙ omega (arith, d.first, bit-partner k mb i d.within, d.second)

  pub mask-none : bit_and ma (reversed (k + 1) mb) ≡ 0 → (i : ℕ) → ¬ DoublyUnknown k ma mb i
  mask-none e i d = let z = sym (ap (λ (x : ℕ). bit x i) e ∙ bit-of-zero i) ∙ doubly-mask i d in omega arith

  pub mask-only : (i : ℕ) → bit_and ma (reversed (k + 1) mb) ≡ 2 ^ i → (n : ℕ) → n ≢ i → ¬ DoublyUnknown k ma mb n
  mask-only i e n f d = let z = sym (ap (λ (x : ℕ). bit x n) e ∙ bit-pow-other i n f) ∙ doubly-mask n d in omega arith

-- ---- another set bit

pub other-bit : (w n i : ℕ) → n < 2 ^ w → i < w → bit n i ≡ 1 → n ≢ 2 ^ i → (j : ℕ) × (j ≢ i) × (bit n j ≡ 1)
other-bit w n i h l e d = elim (search-bits w) [ inl t ↦ t | inr none ↦ absurd (d (bit-ext w n (2 ^ i) h (pow-lt l) (λ j m. same none j m (ℕ_discrete j i)))) ]
  where
    below : (m : ℕ) → ((j : ℕ) → j < m → j ≢ i → bit n j ≡ 0) → (m ≢ i → bit n m ≡ 0) → (j : ℕ) → j < suc m → j ≢ i → bit n j ≡ 0
    below m none z j g f = elim (eq-or-lt_of_le (le_of_suc-le-suc g)) [ inl q ↦ ap (bit n) q ∙ z (λ r. f (q ∙ r)) | inr q ↦ none j q f ]

    at : (m : ℕ) → ((j : ℕ) → j < m → j ≢ i → bit n j ≡ 0) → Dec (m ≡ i) → (bit n m ≡ 0) ⊎ (bit n m ≡ 1)
        → ((j : ℕ) × (j ≢ i) × (bit n j ≡ 1)) ⊎ ((j : ℕ) → j < suc m → j ≢ i → bit n j ≡ 0)
    at m none (yes q) b = inr (below m none (λ f. absurd (f q)))
    at m none (no f) (inl z) = inr (below m none (λ g. z))
    at m none (no f) (inr z) = inl (m, f, z)

    search-bits : (m : ℕ) → ((j : ℕ) × (j ≢ i) × (bit n j ≡ 1)) ⊎ ((j : ℕ) → j < m → j ≢ i → bit n j ≡ 0)
    search-bits zero = inr (λ j g f. absurd (omega arith))
    search-bits (suc m) = elim (search-bits m) [
      | inl t ↦ inl t
      | inr none ↦ at m none (ℕ_discrete m i) (bit-cases n m)
    ]

    same : ((j : ℕ) → j < w → j ≢ i → bit n j ≡ 0) → (j : ℕ) → j < w → Dec (j ≡ i) → bit n j ≡ bit (2 ^ i) j
    same none j m (yes g) = ap (bit n) g ∙ e ∙ sym (ap (bit (2 ^ i)) g ∙ bit-pow i)
    same none j m (no f) = none j m f ∙ sym (bit-pow-other i j f)
