-- Two numbers spliced: the high bits of one and the low bits of the other. Assumes nothing.
--   splice e a b   the bits of a from e on, and those of b below
use mathlib.Core.Path.{◌≡◌, ◌∙◌}
use Prim.Native.Nat.{ℕ, ◌+◌, ◌*◌, ◌/◌, ◌%◌, ◌^◌, ◌≤◌, ◌<◌}
use native.Mathlib.Nat.{mod-lt}
use native.Mathlib.Decide.{dec_lt}
use native.Mathlib.Omega.{arith}
use lib.Pow.{pow_pos, high}
use Rattle.bits.specs.Bit.{bit}
use Rattle.bits.proofs.Bits.{bit-above}
use Rattle.bits.proofs.Shifts.{bit-low, bit-mod}
use Rattle.bits.proofs.SameBits.{bit-of-quotient}
use Rattle.bits.proofs.Numbers.{below-of-bits}
use Rattle.vectors.specs.Row.{Row, Covers}

abbrev pub splice : ℕ → ℕ → ℕ → ℕ
splice e a b = a / 2 ^ e * 2 ^ e + b % 2 ^ e

pub mod_below : (e n : ℕ) → n % 2 ^ e < 2 ^ e
mod_below e n = mod-lt n (pow_pos e)

pub splice-under : (e a b k : ℕ) → k < e → bit (splice e a b) k ≡ bit b k
splice-under e a b k h = bit-low (a / 2 ^ e) e (b % 2 ^ e) k h ∙ bit-mod b e k h

splice-above : (e a b k : ℕ) → e ≤ k → bit (splice e a b) k ≡ bit a k
splice-above e a b k h = bit-of-quotient (splice e a b) a e k h (high (a / 2 ^ e) e (mod_below e b))

pub splice-covers : (r : Row) (e a b : ℕ) → Covers r a → Covers r b → Covers r (splice e a b)
splice-covers r e a b A B =
    record {
      below = below-of-bits r.width (splice e a b) (λ k h. elim (dec_lt k e) [
        | yes u ↦ splice-under e a b k u ∙ bit-above r.width b k B.below h
        | no u ↦ splice-above e a b k (omega arith) ∙ bit-above r.width a k A.below h
      ]);
      agrees = λ k l z. elim (dec_lt k e) [
        | yes u ↦ splice-under e a b k u ∙ B.agrees k l z
        | no u ↦ splice-above e a b k (omega arith) ∙ A.agrees k l z
      ];
    }
