-- The join of two vectors is the best vector for a union. Assumes nothing.
use mathlib.Core.Path.{◌≡◌, sym, ap₂, ◌∙◌}
use mathlib.Core.Logic.{◌⊎◌, inl, inr}
use Prim.Native.Nat.{ℕ, ◌<◌, max}
use native.Mathlib.Omega.{arith}
use lib.Bits.{bit_or, bit_xor, differ, and_lt, or_lt, xor_lt}
use Rattle.bits.specs.Bit.{bit}
use Rattle.bits.proofs.Bits.{bit-lt, bit-cases, bit-and, bit-or, bit-xor}
use Rattle.bits.proofs.SameBits.{differ-cases}
use Rattle.vectors.specs.Row.{Row, WellFormed}
use Rattle.vectors.specs.Hull.{Shows, Hull, join}
use Rattle.vectors.proofs.Hulls.{Inhabited, shows-imp}

module _ (p q : Row) where
  pub join-mask : (k : ℕ) → bit (join p q).mask k ≡ max (max (bit p.mask k) (bit q.mask k)) (differ (bit p.value k) (bit q.value k))
  join-mask k = bit-or (bit_or p.mask q.mask) (bit_xor p.value q.value) k ∙ ap₂ max (bit-or p.mask q.mask k) (bit-xor p.value q.value k)

  pub join-known : (k : ℕ) → bit (join p q).mask k ≡ 0
      → (bit p.mask k ≡ 0) × (bit q.mask k ≡ 0) × (bit p.value k ≡ bit (join p q).value k) × (bit q.value k ≡ bit (join p q).value k)
  join-known k e =
      let m = sym (join-mask k) ∙ e in
      let a = bit-and p.value q.value k in
      elim (differ-cases (bit p.value k) (bit q.value k) (bit-lt p.value k) (bit-lt q.value k)) [
        | inl d ↦ (omega arith, omega arith, omega arith, omega arith)
        | inr d ↦ absurd (omega arith)
      ]

  pub join-formed : WellFormed p → WellFormed q → p.width ≡ q.width → WellFormed (join p q)
  join-formed F G e =
      record {
        mask_below = or_lt p.width _ _ (or_lt p.width _ _ F.mask_below (rw e G.mask_below)) (xor_lt p.width _ _ F.value_below (rw e G.value_below));
        value_below = and_lt p.width _ _ F.value_below (rw e G.value_below);
        apart = λ k z. apart k z;
      }
    where
      apart : (k : ℕ) → bit (join p q).mask k ≡ 1 → bit (join p q).value k ≡ 0
      apart k z =
          let m = sym (join-mask k) ∙ z in
          let a = bit-and p.value q.value k in
          elim (bit-cases p.mask k) [
            | inr x ↦ let y = F.apart k x in omega arith
            | inl x ↦ elim (bit-cases q.mask k) [
              | inr x' ↦ let y = G.apart k x' in omega arith
              | inl x' ↦ elim (differ-cases (bit p.value k) (bit q.value k) (bit-lt p.value k) (bit-lt q.value k)) [
                | inl d ↦ absurd (omega arith)
                | inr d ↦ omega arith
              ]
            ]
          ]

-- the join is the best vector for both sets
pub hull-join : (w : ℕ) (P Q : ℕ → Type 0) (p q : Row) → Hull w P p → Hull w Q q → Inhabited P → Inhabited Q → Hull w (λ n. P n ⊎ Q n) (join p q)
hull-join w P Q p q H J S U =
    record {
      width_is = H.width_is;
      formed = join-formed p q H.formed J.formed (H.width_is ∙ sym J.width_is);
      unknown = unknown;
      known = known;
    }
  where
    left : (k b : ℕ) → Shows P k b → Shows (λ n. P n ⊎ Q n) k b
    left k b = shows-imp P (λ n. P n ⊎ Q n) (λ n x. inl x) k b

    right : (k b : ℕ) → Shows Q k b → Shows (λ n. P n ⊎ Q n) k b
    right k b = shows-imp Q (λ n. P n ⊎ Q n) (λ n x. inr x) k b

    at_p : (k b : ℕ) → k < w → bit p.mask k ≡ 0 → bit p.value k ≡ b → Shows P k b
    at_p k b h e z = record { shown = S.member; within = S.is_inside; shows = H.known k h e S.member S.is_inside ∙ z }

    at-q : (k b : ℕ) → k < w → bit q.mask k ≡ 0 → bit q.value k ≡ b → Shows Q k b
    at-q k b h e z = record { shown = U.member; within = U.is_inside; shows = J.known k h e U.member U.is_inside ∙ z }

    unknown : (k : ℕ) → k < w → bit (join p q).mask k ≡ 1 → Shows (λ n. P n ⊎ Q n) k 0 × Shows (λ n. P n ⊎ Q n) k 1
    unknown k h e =
        elim (bit-cases p.mask k) [
          | inr x ↦ let (a, b) = H.unknown k h x in (left k 0 a, left k 1 b)
          | inl x ↦ elim (bit-cases q.mask k) [
            | inr y ↦ let (a, b) = J.unknown k h y in (right k 0 a, right k 1 b)
            | inl y ↦
                let m = sym (join-mask p q k) ∙ e in
                elim (differ-cases (bit p.value k) (bit q.value k) (bit-lt p.value k) (bit-lt q.value k)) [
                  | inl d ↦ absurd (omega arith)
                  | inr d ↦ elim (bit-cases p.value k) [
                    | inl z ↦ (left k 0 (at_p k 0 h x z), right k 1 (at-q k 1 h y (omega arith)))
                    | inr z ↦ (right k 0 (at-q k 0 h y (omega arith)), left k 1 (at_p k 1 h x z))
                  ]
                ]
          ]
        ]

    known : (k : ℕ) → k < w → bit (join p q).mask k ≡ 0 → (n : ℕ) → P n ⊎ Q n → bit n k ≡ bit (join p q).value k
    known k h e n (inl x) = let j = join-known p q k e in H.known k h j.0 n x ∙ j.2
    known k h e n (inr y) = let j = join-known p q k e in J.known k h j.1 n y ∙ j.3
