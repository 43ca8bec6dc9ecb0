-- The count of a number's ones, with the lowest cleared. Assumes nothing.
use Rattle.std.proofs.Common.{◌≡◌, ℕ, zero, suc, ◌+◌, ◌-◌, ◌/◌, ◌%◌, ◌^◌, ◌<◌, refl, ap, ◌∙◌, arith}
use native.Mathlib.Decide.{ℕ_discrete}
use lib.Bits.{bit_and, and_step, and_self, and_zero_l}
use lib.Count.{ones_in}
use Rattle.bits.proofs.Counts.{ones_in-zero}

pub ones-cleared : (v n : ℕ) → ones_in v (bit_and n (n - 1)) ≡ ones_in v n - 1
unfolding ones_in
ones-cleared zero n = refl
ones-cleared (suc v) n = elim (ℕ_discrete n 0) [
  | yes z ↦
      let a = ap (λ (m : ℕ). ones_in (suc v) (bit_and m (m - 1))) z ∙ ap (ones_in (suc v)) (and_zero_l (0 - 1)) ∙ ones_in-zero (suc v) in
      let b = ap (ones_in (suc v)) z ∙ ones_in-zero (suc v) in
      omega arith
  | no h ↦ elim (ℕ_discrete (n % 2) 0) [
    | yes e ↦
        let q : (n - 1) / 2 ≡ n / 2 - 1 = omega arith in
        let s = and_step n (n - 1) in
        let a : bit_and n (n - 1) / 2 ≡ bit_and (n / 2) ((n - 1) / 2) = omega arith in
        let b = ap (ones_in v) (a ∙ ap (bit_and (n / 2)) q) in
        let c = ones-cleared v (n / 2) in
        omega arith
    | no e ↦
        let q : (n - 1) / 2 ≡ n / 2 = omega arith in
        let s = and_step n (n - 1) in
        let a : bit_and n (n - 1) / 2 ≡ bit_and (n / 2) ((n - 1) / 2) = omega arith in
        let b = ap (ones_in v) (a ∙ ap (bit_and (n / 2)) q ∙ and_self (n / 2)) in
        omega arith
  ]
]

-- the same with a wrapping difference
pub ones-wrapped : (n d : ℕ) → d < 2 ^ 64 → (d + 1) % 2 ^ 64 ≡ n → ones_in 64 (bit_and n d) ≡ ones_in 64 n - 1
ones-wrapped zero d h e = let z = ones_in-zero 64 in ap (ones_in 64) (and_zero_l d) ∙ omega arith
ones-wrapped (suc n) d h e = let f : d ≡ suc n - 1 = omega arith in ap (λ (x : ℕ). ones_in 64 (bit_and (suc n) x)) f ∙ ones-cleared 64 (suc n)
