-- Where each bit of a rotated number comes from, and the rotation in a word, for every width. Assumes nothing.
--   rotl-low, rotl-high   bit j of a rotation by p: bit j + w - p % w below p % w, bit j - p % w from there on
--   rotl-moved            a rotation moves bits
--   rotl-word             a rotation by two shifts in a word of n bits
use Rattle.std.proofs.Common.{◌≡◌, ℕ, ◌+◌, ◌-◌, ◌*◌, ◌/◌, ◌%◌, ◌^◌, ◌<◌, ◌≤◌, max, ◌&&◌, T, eqb, List, [], ◌∷◌, get_or, sym, ap, ◌∙◌, subst, ap₂, inr, lt_of_lt_of_le, mod-lt, mod-eq_of_lt, arith, eqb→eq, shr-shr}
use native.Mathlib.Nat.{add-mod-mod, mod-eq-sub-mod}
use native.Mathlib.Decide.{dec_lt}
use lib.Bits.{bit_and, bit_or, and_mask, mask_lt}
use Rattle.bits.specs.Bit.{bit, is_set, digit}
use Rattle.bits.specs.Below.{some_below}
use Rattle.bits.proofs.Bools.{T_and, T-left, T-right, eq→eqb}
use Rattle.bits.proofs.Below.{some_below-intro, some_below-elim}
use Rattle.bits.proofs.Bits.{bit-above, bit-ext, bit-number, bit-or, number-below}
use Rattle.bits.proofs.Shifts.{bit-div, bit-mod, bit-mul-low, bit-mul-high}
use Rattle.bits.proofs.Numbers.{digit-is_set}
use Rattle.operations.specs.Moves.{op_rotl}
use Rattle.operations.proofs.SmtBits.{T-ext}
use Rattle.logic.proofs.Moving.{Moved}

-- ---- place k goes to k + p modulo w

goes : (w p k : ℕ) → k + p % w < w → (k + p) % w ≡ k + p % w
goes w p k h = sym (add-mod-mod k p w) ∙ mod-eq_of_lt h

goes-round : (w p k : ℕ) → k < w → w ≤ k + p % w → (k + p) % w ≡ k + p % w - w
goes-round w p k l h =
    let z : 0 < w = omega arith in
    sym (add-mod-mod k p w) ∙ mod-eq-sub-mod h ∙ mod-eq_of_lt (omega (arith, mod-lt p z))

module _ (w p x j i : ℕ) (l : i < w) (to : (i + p) % w ≡ j) (only : (k : ℕ) → k < w → (k + p) % w ≡ j → k ≡ i) where
  comes : some_below w (λ k. eqb ((k + p) % w) j && is_set x k) ≡ is_set x i
  comes =
      T-ext (some_below w (λ k. eqb ((k + p) % w) j && is_set x k)) (is_set x i)
      (λ t.
      let (k, h, u) = some_below-elim w (λ k. eqb ((k + p) % w) j && is_set x k) t in
      subst (λ (n : ℕ). T (is_set x n)) (only k h (eqb→eq ((k + p) % w) j (T-left (eqb ((k + p) % w) j) _ u))) (T-right (eqb ((k + p) % w) j) _ u))
      (λ t. some_below-intro w (λ k. eqb ((k + p) % w) j && is_set x k) i l (T_and (eqb ((i + p) % w) j) _ (eq→eqb to) t))

module _ (w p : ℕ) (ns : List ℕ) (j : ℕ) (l : j < w) where
  -- bit j comes from place i, if i alone goes to j
  from : (i : ℕ) → i < w → (i + p) % w ≡ j → ((k : ℕ) → k < w → (k + p) % w ≡ j → k ≡ i) → bit (op_rotl.plain w (w ∷ []) p ns) j ≡ bit (get_or ns 0 0) i
  unfolding op_rotl
  from i h to only = bit-number w _ j l ∙ ap digit (comes w p (get_or ns 0 0) j i h to only) ∙ digit-is_set (get_or ns 0 0) i

  pub rotl-low : j < p % w → bit (op_rotl.plain w (w ∷ []) p ns) j ≡ bit (get_or ns 0 0) (j + w - p % w)
  rotl-low h =
      let z : 0 < w = omega arith in
      let q = mod-lt p z in
      from (j + w - p % w) (omega arith) (goes-round w p (j + w - p % w) (omega arith) (omega arith) ∙ (omega arith))
      (λ k i e. elim (dec_lt (k + p % w) w) [
        | yes y ↦ let e' = goes w p k y in absurd (omega arith)
        | no n ↦ let e' = goes-round w p k i (omega arith) in omega arith
      ])

  pub rotl-high : p % w ≤ j → bit (op_rotl.plain w (w ∷ []) p ns) j ≡ bit (get_or ns 0 0) (j - p % w)
  rotl-high h =
      from (j - p % w) (omega arith) (goes w p (j - p % w) (omega arith) ∙ (omega arith))
      (λ k i e. elim (dec_lt (k + p % w) w) [
        | yes y ↦ let e' = goes w p k y in omega arith
        | no n ↦ let e' = goes-round w p k i (omega arith) in absurd (omega arith)
      ])

pub rotl-moved : (w p k : ℕ) → k < w → Moved (op_rotl.plain w (w ∷ []) p) (w ∷ []) k
rotl-moved w p k l =
    elim (dec_lt k (p % w)) [
      | yes y ↦ inr (record { operand = 0; place = k + w - p % w; inside = omega arith; moves = λ ns b. rotl-low w p ns k l y })
      | no n ↦ inr (record { operand = 0; place = k - p % w; inside = omega arith; moves = λ ns b. rotl-high w p ns k l (omega arith) })
    ]

rotl-below : (w p : ℕ) (ns : List ℕ) → op_rotl.plain w (w ∷ []) p ns < 2 ^ w
unfolding op_rotl
rotl-below w p ns = number-below w _

-- the bits that leave at the top come in at the bottom; to shift by w - p % w, which may be n, takes two shifts
pub rotl-word : (w p x n : ℕ) → 1 ≤ w → w ≤ n → x < 2 ^ w
    → bit_and (bit_or (x * 2 ^ (p % w) % 2 ^ n) (x / 2 ^ (w - 1 - p % w) / 2 ^ 1)) (2 ^ w - 1) ≡ op_rotl.plain w (w ∷ []) p (x ∷ [])
rotl-word w p x n h i l = bit-ext w joined (op_rotl.plain w (w ∷ []) p (x ∷ [])) (mask_lt (bit_or up down) w) (rotl-below w p (x ∷ [])) same_bits
  where
    up : ℕ
    up = x * 2 ^ (p % w) % 2 ^ n

    down : ℕ
    down = x / 2 ^ (w - 1 - p % w) / 2 ^ 1

    joined : ℕ
    joined = bit_and (bit_or up down) (2 ^ w - 1)

    q-lt : p % w < w
    q-lt = mod-lt p h

    up-bit : (k : ℕ) → k < w → bit up k ≡ bit (x * 2 ^ (p % w)) k
    up-bit k lk = bit-mod (x * 2 ^ (p % w)) n k (lt_of_lt_of_le lk i)

    down-bit : (k : ℕ) → bit down k ≡ bit x (k + (w - p % w))
    down-bit k =
        let e : w - 1 - p % w + 1 ≡ w - p % w = let q = q-lt in omega arith in
        ap (λ (y : ℕ). bit y k) (shr-shr x (w - 1 - p % w) 1) ∙ bit-div x (w - 1 - p % w + 1) k ∙ ap (λ (y : ℕ). bit x (k + y)) e

    same_bits : (k : ℕ) → k < w → bit joined k ≡ bit (op_rotl.plain w (w ∷ []) p (x ∷ [])) k
    same_bits k lk =
        ap (λ (y : ℕ). bit y k) (and_mask (bit_or up down) w)
        ∙ bit-mod (bit_or up down) w k lk
        ∙ bit-or up down k
        ∙ ap₂ max (up-bit k lk) (down-bit k)
        ∙ elim (dec_lt k (p % w)) [
          | yes y ↦
              let e : k + (w - p % w) ≡ k + w - p % w = let q = q-lt in omega arith in
              let z = bit-mul-low x (p % w) k y in
              (omega arith) ∙ ap (bit x) e ∙ sym (rotl-low w p (x ∷ []) k lk y)
          | no m ↦
              let e : k ≡ k - p % w + p % w = omega arith in
              let z = bit-above w x (k + (w - p % w)) l (omega arith) in
              let u : bit (x * 2 ^ (p % w)) k ≡ bit x (k - p % w) = ap (bit (x * 2 ^ (p % w))) e ∙ bit-mul-high x (p % w) (k - p % w) in
              (omega arith) ∙ u ∙ sym (rotl-high w p (x ∷ []) k lk (omega arith))
        ]
