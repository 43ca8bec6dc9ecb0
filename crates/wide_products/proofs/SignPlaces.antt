-- The place of a sign: what the code tells by it. Assumes nothing.
--   counted-small                a number without its sign counts as itself
--   unknown-place                a sign that is unknown has a place
--   place-known, place-unknown   a sign is unknown exactly where the mask has its place
use mathlib.Core.Path.{◌≡◌, sym, ap, ◌∙◌}
use mathlib.Core.Bool.{Bool, true, false}
use mathlib.Core.Logic.{inl, inr}
use Prim.Native.Nat.{ℕ, ◌+◌, ◌-◌, ◌*◌, ◌^◌, ◌<◌, min}
use native.Mathlib.Nat.{one-mul}
use native.Mathlib.Decide.{ℕ_discrete}
use native.Mathlib.Omega.{arith}
use lib.Bits.{bit_and, and_zero_r}
use lib.Dec.{T}
use Rattle.bits.specs.Bit.{bit, digit}
use Rattle.bits.proofs.Bits.{bit-cases, bit-and, bit-above, bit-of-zero}
use Rattle.bits.proofs.Constants.{bit-pow, bit-pow-other}
use Rattle.bits.proofs.Numbers.{is_set-true, is_set-false, zero-of-bits}
use Rattle.vectors.specs.Row.{Row}
use Rattle.operations.specs.Encoding.{sign_place}
use Rattle.operations.specs.Wide.{counted_as}
use Rattle.wide_products.specs.Apart.{sign_unknown}
use Rattle.wide_products.proofs.SignCases.{sign-is-unknown}

-- a number without its sign counts as itself
pub counted-small : (signed : Bool) (wt w n : ℕ) → n < 2 ^ (w - 1) → counted_as signed wt w n ≡ n
unfolding counted_as
counted-small false wt w n h = omega arith
counted-small true wt w n h =
    ap (λ (b : Bool). n + digit b * (2 ^ wt - 2 ^ w)) (is_set-false n (w - 1) (bit-above (w - 1) n (w - 1) h (omega arith))) ∙ omega arith

-- a sign that is unknown has a place, which the mask has
pub unknown-place : (signed : Bool) (r : Row) → T (sign_unknown signed r) → sign_place signed r.width ≡ 2 ^ (r.width - 1)
unfolding sign_unknown
unknown-place true r u = one-mul (2 ^ (r.width - 1))
unknown-place false r u = absurd u

-- where the mask does not have it, the sign is not unknown, and else it is
pub place-known : (signed : Bool) (r : Row) → bit_and r.mask (sign_place signed r.width) ≡ 0 → T (sign_unknown signed r) → ⊥
place-known signed r e u =
    let k = r.width - 1 in
    let b = sign-is-unknown signed r u in
    let z = sym (bit-and r.mask (sign_place signed r.width) k) ∙ ap (λ (x : ℕ). bit x k) e ∙ bit-of-zero k in
    let o = ap (λ (x : ℕ). bit x k) (unknown-place signed r u) ∙ bit-pow k in
    omega arith

no-common : (m k : ℕ) → bit m k ≡ 0 → bit_and m (1 * 2 ^ k) ≡ 0
no-common m k e = zero-of-bits _ (λ j. bit-and m (1 * 2 ^ k) j ∙ at j)
  where
    at : (j : ℕ) → min (bit m j) (bit (1 * 2 ^ k) j) ≡ 0
    at j =
        elim (ℕ_discrete j k) [
          | yes y ↦ let z = ap (bit m) y in omega arith
          | no y ↦ let z = ap (λ (x : ℕ). bit x j) (one-mul (2 ^ k)) ∙ bit-pow-other k j y in omega arith
        ]

pub place-unknown : (signed : Bool) (r : Row) → (bit_and r.mask (sign_place signed r.width) ≡ 0 → ⊥) → T (sign_unknown signed r)
unfolding sign_unknown
place-unknown false r d = absurd (d (ap (bit_and r.mask) (omega arith) ∙ and_zero_r r.mask))
place-unknown true r d =
    elim (bit-cases r.mask (r.width - 1)) [
      | inl e ↦ absurd (d (no-common r.mask (r.width - 1) e))
      | inr e ↦ rw (is_set-true r.mask (r.width - 1) e) tt
    ]
