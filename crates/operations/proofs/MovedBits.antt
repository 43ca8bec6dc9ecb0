-- Where the bits of the plain numbers of shl, lshr, extract and concat come from: which bit of which operand each is, for any widths. Assumes nothing.
use mathlib.Core.Path.{◌≡◌, ap, ◌∙◌}
use mathlib.Core.List.{List}
use Prim.Native.Nat.{ℕ, ◌+◌, ◌-◌, ◌*◌, ◌/◌, ◌^◌, ◌≤◌, ◌<◌}
use native.Mathlib.Omega.{arith}
use Rattle.bits.specs.Bit.{bit}
use Rattle.bits.proofs.Shifts.{bit-div, bit-mod, bit-low, bit_high, bit-mul-low, bit-mul-high}
use Rattle.operations.specs.Kind.{first, second}
use Rattle.operations.specs.Moves.{op_shl, op_lshr, op_extract, op_concat}

module _ (wt p : ℕ) (ws ns : List ℕ) (k : ℕ) where
  pub shl-low : k < first ws → k < p → bit (op_shl.plain wt ws p ns) k ≡ 0
  unfolding op_shl
  shl-low l h = bit-mod (first ns * 2 ^ p) (first ws) k l ∙ bit-mul-low (first ns) p k h

  pub shl-high : k < first ws → p ≤ k → bit (op_shl.plain wt ws p ns) k ≡ bit (first ns) (k - p)
  unfolding op_shl
  shl-high l h =
      let e : k ≡ k - p + p = omega arith in
      bit-mod (first ns * 2 ^ p) (first ws) k l ∙ ap (bit (first ns * 2 ^ p)) e ∙ bit-mul-high (first ns) p (k - p)

  pub lshr-bit : bit (op_lshr.plain wt ws p ns) k ≡ bit (first ns) (k + p)
  unfolding op_lshr
  lshr-bit = bit-div (first ns) p k

  pub extract-bit : k < wt → bit (op_extract.plain wt ws p ns) k ≡ bit (first ns) (k + p)
  unfolding op_extract
  extract-bit l = bit-mod (first ns / 2 ^ p) wt k l ∙ bit-div (first ns) p k

  pub concat-low : k < second ws → bit (op_concat.plain wt ws p ns) k ≡ bit (second ns) k
  unfolding op_concat
  concat-low h = bit-low (first ns) (second ws) (second ns) k h

  pub concat-high : second ns < 2 ^ second ws → second ws ≤ k → bit (op_concat.plain wt ws p ns) k ≡ bit (first ns) (k - second ws)
  unfolding op_concat
  concat-high l h =
      let e : k ≡ k - second ws + second ws = omega arith in
      ap (bit (first ns * 2 ^ second ws + second ns)) e ∙ bit_high (first ns) (second ws) (second ns) (k - second ws) l
