-- `conclusions::forget` meets its contract: the bit set in the mask, set and turned in the value. Assumes nothing.
use mathlib.Core.Path.{ap}
use Prim.Native.Nat.{ℕ}
use lib.ListN.{get_or, set}
use lib.Bits.{bit_or, bit_xor}
use Rattle.bits.proofs.Words.{shifted_one}
use Rattle.steps.specs.States.{held}
use Rattle.conclusions.proofs.forget.Goals as goal

pub returns : goal.returns
returns c widths =
    let a = c.args in
    let m = a.mask.now in
    let v = a.value.now in
    ap (λ (one : ℕ). held (set m a.i (bit_or (get_or m a.i 0) one)) (set v a.i (bit_xor (bit_or (get_or v a.i 0) one) one))) (shifted_one 32 a.k c.requires.2)
