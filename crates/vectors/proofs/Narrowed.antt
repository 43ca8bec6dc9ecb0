-- A row with one of its unknown bits known: it covers what the row covers and has that bit. Assumes nothing.
--   Narrows r i b q                 q is the row r with its unknown bit i known as b
--   narrowed-formed, narrowed-covers   it is well formed; what it covers
--   narrowed-inside, narrowed-apart    it lies inside; with the bit known as 0 and as 1, the two cover all that the row covers
use mathlib.Core.Path.{◌≡◌, sym, ap, subst, ◌∙◌}
use mathlib.Core.Logic.{◌≢◌, ◌⊎◌, ◌↔◌, inl, inr}
use Prim.Native.Nat.{ℕ, ◌^◌, ◌<◌}
use native.Mathlib.Decide.{dec_lt, ℕ_discrete}
use native.Mathlib.Omega.{arith}
use Rattle.bits.specs.Bit.{bit}
use Rattle.bits.proofs.Bits.{bit-above, bit-cases}
use Rattle.bits.proofs.Numbers.{below-of-bits}
use Rattle.vectors.specs.Row.{Row, WellFormed, Covers, Inside}

pub record Narrows (r : Row) (i b : ℕ) (q : Row) : Type 0 where
  pub width_is : q.width ≡ r.width
  pub unknown : bit r.mask i ≡ 1
  pub mask_at : bit q.mask i ≡ 0
  pub mask_other : (k : ℕ) → k ≢ i → bit q.mask k ≡ bit r.mask k
  pub value_at : bit q.value i ≡ b
  pub value_other : (k : ℕ) → k ≢ i → bit q.value k ≡ bit r.value k

module _ (r : Row) (i b : ℕ) (q : Row) (F : WellFormed r) (N : Narrows r i b q) where
  place-below : i < r.width
  place-below = elim (dec_lt i r.width) [
    | yes h ↦ h
    | no h ↦ let z = bit-above r.width r.mask i F.mask_below (omega arith) in let u = N.unknown in absurd (omega arith)
  ]

  -- a known bit of the row is another one
  elsewhere : (k : ℕ) → bit r.mask k ≡ 0 → k ≢ i
  elsewhere k e d = let z : bit r.mask k ≡ 1 = ap (bit r.mask) d ∙ N.unknown in omega arith

  -- a plane that differs from the row's at place i alone stays below the width
  plane-below : (m n : ℕ) → m < 2 ^ r.width → ((k : ℕ) → k ≢ i → bit n k ≡ bit m k) → n < 2 ^ q.width
  plane-below m n l h =
      subst (λ (w : ℕ). n < 2 ^ w) (sym N.width_is)
      (below-of-bits r.width n (λ k g. h k (let p = place-below in omega arith) ∙ bit-above r.width m k l g))

  pub narrowed-formed : WellFormed q
  narrowed-formed =
      record {
        mask_below = plane-below r.mask q.mask F.mask_below N.mask_other;
        value_below = plane-below r.value q.value F.value_below N.value_other;
        apart = λ k e. elim (ℕ_discrete k i) [
          | yes d ↦ let z : bit q.mask k ≡ 0 = ap (bit q.mask) d ∙ N.mask_at in absurd (omega arith)
          | no d ↦ N.value_other k d ∙ F.apart k (sym (N.mask_other k d) ∙ e)
        ];
      }

  pub narrowed-covers : (n : ℕ) → Covers q n ↔ (Covers r n × (bit n i ≡ b))
  narrowed-covers n = (
    (λ c. (
      record {
        below = subst (λ (w : ℕ). n < 2 ^ w) N.width_is c.below;
        agrees = λ k h e. let d = elsewhere k e in c.agrees k (let w = N.width_is in omega arith) (N.mask_other k d ∙ e) ∙ N.value_other k d;
      },
      c.agrees i (let p = place-below in let w = N.width_is in omega arith) N.mask_at ∙ N.value_at,
    )),
    (λ c. record {
      below = subst (λ (w : ℕ). n < 2 ^ w) (sym N.width_is) c.0.below;
      agrees = λ k h e. elim (ℕ_discrete k i) [
        | yes d ↦ ap (bit n) d ∙ c.1 ∙ sym (ap (bit q.value) d ∙ N.value_at)
        | no d ↦ c.0.agrees k (let w = N.width_is in omega arith) (sym (N.mask_other k d) ∙ e) ∙ sym (N.value_other k d)
      ];
    }),
  )

  pub narrowed-inside : Inside q r
  narrowed-inside n c = ((narrowed-covers n).0 c).0

pub narrowed-apart : (r : Row) (i : ℕ) (p q : Row) → WellFormed r → Narrows r i 0 p → Narrows r i 1 q → (n : ℕ) → Covers r n → Covers p n ⊎ Covers q n
narrowed-apart r i p q F P Q n c =
    elim (bit-cases n i) [ inl e ↦ inl ((narrowed-covers r i 0 p F P n).1 (c, e)) | inr e ↦ inr ((narrowed-covers r i 1 q F Q n).1 (c, e)) ]
