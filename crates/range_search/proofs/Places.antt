-- A bit of a word at its place, as the code takes it. Assumes nothing.
use mathlib.Core.Path.{◌≡◌, ap, ◌∙◌}
use Prim.Native.Nat.{ℕ, ◌*◌, ◌/◌, ◌%◌, ◌^◌, ◌<◌}
use lib.Bits.{bit_and}
use Rattle.bits.specs.Bit.{bit}
use Rattle.bits.proofs.Bits.{bit-lt}
use Rattle.bits.proofs.Words.{bit_word, shifted-bit}

pub at_place : (m k : ℕ) → k < 32 → bit_and (m / 2 ^ k) 1 * 2 ^ k % 2 ^ 32 ≡ bit m k * 2 ^ k
at_place m k h = ap (λ (b : ℕ). b * 2 ^ k % 2 ^ 32) (bit_word m k) ∙ shifted-bit 32 (bit m k) k (bit-lt m k) h
