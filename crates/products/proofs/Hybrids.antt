-- Numbers between two numbers, in steps of one bit. Assumes nothing.
--   hybrid a c i   the i low bits of c, and the others of a
use mathlib.Core.Path.{◌≡◌, sym, ◌∙◌}
use Prim.Native.Nat.{ℕ, suc, ◌+◌, ◌*◌, ◌/◌, ◌%◌, ◌^◌, ◌≤◌, ◌<◌}
use native.Mathlib.Nat.{mod-lt, mod-one, div-one}
use native.Mathlib.Decide.{dec_lt}
use native.Mathlib.Omega.{arith}
use lib.Pow.{pow_pos}
use Rattle.bits.specs.Bit.{bit}
use Rattle.bits.proofs.Bits.{bit-above}
use Rattle.bits.proofs.Shifts.{bit-div, bit-low, bit_high, bit-mod}
use Rattle.bits.proofs.Numbers.{below-of-bits}
use Rattle.vectors.specs.Row.{Row, Covers}
use Rattle.products.proofs.SetBits.{above}
use Rattle.products.proofs.Flips.{AgreeBut}

unfoldable pub hybrid : ℕ → ℕ → ℕ → ℕ
hybrid a c i = a / 2 ^ i * 2 ^ i + c % 2 ^ i

pub hybrid-high : (a c i j : ℕ) → i ≤ j → bit (hybrid a c i) j ≡ bit a j
unfolding hybrid
hybrid-high a c i =
    above (λ j. bit (hybrid a c i) j ≡ bit a j) i (λ m. bit_high (a / 2 ^ i) i (c % 2 ^ i) m (mod-lt c (pow_pos i)) ∙ bit-div a i m)

pub hybrid-low : (a c i j : ℕ) → j < i → bit (hybrid a c i) j ≡ bit c j
unfolding hybrid
hybrid-low a c i j h = bit-low (a / 2 ^ i) i (c % 2 ^ i) j h ∙ bit-mod c i j h

pub hybrid-zero : (a c : ℕ) → hybrid a c 0 ≡ a
unfolding hybrid
hybrid-zero a c = omega (arith, div-one a, mod-one c)

-- one step changes bit i alone
pub hybrid-step : (k a c i : ℕ) → AgreeBut k i (hybrid a c i) (hybrid a c (suc i))
hybrid-step k a c i j l n =
    elim (dec_lt j i) [
      | yes h ↦ hybrid-low a c i j h ∙ sym (hybrid-low a c (suc i) j (omega arith))
      | no h ↦ hybrid-high a c i j (omega arith) ∙ sym (hybrid-high a c (suc i) j (omega arith))
    ]

pub hybrid-covers : (r : Row) (a c i : ℕ) → i ≤ r.width → Covers r a → Covers r c → Covers r (hybrid a c i)
hybrid-covers r a c i h ca cc =
    record {
      below = below-of-bits r.width (hybrid a c i) (λ j l. hybrid-high a c i j (omega arith) ∙ bit-above r.width a j ca.below l);
      agrees = λ j l z.
          elim (dec_lt j i) [
            | yes m ↦ hybrid-low a c i j m ∙ cc.agrees j l z
            | no m ↦ hybrid-high a c i j (omega arith) ∙ ca.agrees j l z
          ];
    }
