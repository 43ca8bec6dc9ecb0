-- One bit of a vector as an answer, by the bits of its mask and its value. Assumes nothing.
use mathlib.Core.Path.{◌≡◌, sym, ap, ◌∙◌}
use mathlib.Core.Bool.{cond}
use mathlib.Core.Logic.{inl, inr}
use Prim.Native.Nat.{ℕ}
use lib.Dec.{eqb}
use Prim.Native.Nat.{◌/◌, ◌^◌}
use mathlib.Core.Logic.{◌≢◌}
use lib.Bits.{bit_and}
use Rattle.bits.specs.Bit.{bit, is_set}
use Rattle.bits.proofs.Bits.{bit-cases}
use Rattle.bits.proofs.Numbers.{is_set-true}
use Rattle.vectors.specs.declared.OutputBit.{OutputBit}
use Rattle.vectors.specs.declared.OutputBit.TheVariants.{Zero, One, Unknown}
use Rattle.bits.proofs.Words.{bit_word}
use Rattle.vectors.specs.Row.{Row, row}
use Rattle.vectors.specs.OutputBits.{output_bit, output_mask}

pub output-unknown : (r : Row) (k : ℕ) → bit r.mask k ≡ 1 → output_bit r k ≡ Unknown
unfolding output_bit
output-unknown r k e = simp (is_set-true r.mask k e)

pub output-known : (r : Row) (k b : ℕ) → bit r.mask k ≡ 0 → bit r.value k ≡ b → output_bit r k ≡ cond (eqb b 1) One Zero
unfolding output_bit is_set
output-known r k b e f = simp (e, f)

-- an answer's mask bit is the vector's
pub mask-bit-of : (r : Row) (k : ℕ) (b : OutputBit) (u : ℕ) → b ≡ output_bit r k → u ≡ output_mask b → u ≡ bit r.mask k
mask-bit-of r k b u eb eu =
    eu
    ∙ ap output_mask eb
    ∙ elim (bit-cases r.mask k) [
      | inr e ↦ ap output_mask (output-unknown r k e) ∙ sym e
      | inl e ↦ elim (bit-cases r.value k) [
        | inl f ↦ ap output_mask (output-known r k 0 e f) ∙ sym e
        | inr f ↦ ap output_mask (output-known r k 1 e f) ∙ sym e
      ]
    ]

-- ---- one bit of a vector, by tests of the words shifted

set-word : (n k : ℕ) → bit_and (n / 2 ^ k) 1 ≡ 1 → bit n k ≡ 1
set-word n k e = sym (bit_word n k) ∙ e

clear-word : (n k : ℕ) → bit_and (n / 2 ^ k) 1 ≢ 1 → bit n k ≡ 0
clear-word n k d = elim (bit-cases n k) [ inl e ↦ e | inr e ↦ absurd (d (bit_word n k ∙ e)) ]

pub told_unknown : (w m v k : ℕ) → bit_and (m / 2 ^ k) 1 ≡ 1 → output_bit (row w m v) k ≡ Unknown
told_unknown w m v k e = output-unknown (row w m v) k (set-word m k e)

pub told_one : (w m v k : ℕ) → bit_and (m / 2 ^ k) 1 ≢ 1 → bit_and (v / 2 ^ k) 1 ≡ 1 → output_bit (row w m v) k ≡ One
told_one w m v k d e = output-known (row w m v) k 1 (clear-word m k d) (set-word v k e)

pub told_zero : (w m v k : ℕ) → bit_and (m / 2 ^ k) 1 ≢ 1 → bit_and (v / 2 ^ k) 1 ≢ 1 → output_bit (row w m v) k ≡ Zero
told_zero w m v k d e = output-known (row w m v) k 0 (clear-word m k d) (clear-word v k e)
