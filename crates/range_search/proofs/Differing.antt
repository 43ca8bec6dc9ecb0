-- How many of the lowest bits hold all in which two words differ: just below that place they do. Assumes nothing.
use mathlib.Core.Path.{◌≡◌, sym, ap, ◌∙◌, subst}
use mathlib.Core.Logic.{inl, inr}
use Prim.Native.Nat.{ℕ, suc, ◌+◌, ◌-◌, ◌*◌, ◌/◌, ◌^◌, ◌≤◌, ◌<◌}
use native.Mathlib.Nat.{pow-suc}
use native.Mathlib.Numerals.{add-one}
use native.Mathlib.Decide.{dec_lt}
use native.Mathlib.Omega.{arith}
use lib.Pow.{pow_mono, shr-shr, shr_mono}
use lib.Bits.{bit_xor, xor_lt}
use lib.Count.{count_leading_zeros, leading_length}
use Rattle.bits.specs.Bit.{bit}
use Rattle.bits.proofs.Bits.{bit-lt, bit-xor}
use Rattle.bits.proofs.Shifts.{top_one}
use Rattle.bits.proofs.SameBits.{differ-cases, same-quotient}

-- the half of a quotient
pub half-shift : (a d : ℕ) → a / 2 ^ d / 2 ≡ a / 2 ^ suc d
half-shift a d = shr-shr a d 1 ∙ ap (λ (n : ℕ). a / 2 ^ n) (add-one d)

module _ (v a b e : ℕ) (ha : a < 2 ^ v) (hb : b < 2 ^ v) (e-is : e ≡ v - count_leading_zeros v (bit_xor a b)) where
  pub length-is : (bit_xor a b < 2 ^ e) × (2 ^ e ≤ 2 * bit_xor a b + 1)
  length-is =
      let (m, s, l, g) = leading_length v (bit_xor a b) (xor_lt v a b ha hb) in
      let q : m ≡ e = omega arith in
      (subst (λ (n : ℕ). bit_xor a b < 2 ^ n) q l, subst (λ (n : ℕ). 2 ^ n ≤ 2 * bit_xor a b + 1) q g)

  pub few : (w : ℕ) → a < 2 ^ w → b < 2 ^ w → e ≤ w
  few w la lb =
      elim (dec_lt w e) [
        | yes h ↦ absurd (let x = xor_lt w a b la lb in let p = pow_mono {i = suc w} {j = e} h in let q = pow-suc 2 w in let g = length-is.1 in omega arith)
        | no h ↦ omega arith
      ]

  pub differ-at : a ≤ b → (d : ℕ) → e ≡ suc d → (bit a d ≡ 0) × (bit b d ≡ 1)
  unfolding bit
  differ-at o d q =
      let g = subst (λ (n : ℕ). (bit_xor a b < 2 ^ n) × (2 ^ n ≤ 2 * bit_xor a b + 1)) q length-is in
      let p = pow-suc 2 d in
      let t = top_one (bit_xor a b) d g.0 (let z = g.1 in omega arith) in
      let s = subst (λ (n : ℕ). a / 2 ^ n ≡ b / 2 ^ n) q (same-quotient v a b e ha hb length-is.0) in
      let y : a / 2 ^ d / 2 ≡ b / 2 ^ d / 2 = half-shift a d ∙ s ∙ sym (half-shift b d) in
      let m = shr_mono {a = a} {b = b} d o in
      let c = sym (bit-xor a b d) ∙ t in
      elim (differ-cases (bit a d) (bit b d) (bit-lt a d) (bit-lt b d)) [
        | inl u ↦ absurd (omega arith)
        | inr u ↦ (let w = u.0 in (omega arith, omega arith))
      ]
