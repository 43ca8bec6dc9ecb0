-- `steps::copy_rows` meets its contract: row by row, mask and value, of which no bit is taken away. Assumes nothing.
use mathlib.Core.Path.{sym, ap, ◌∙◌}
use native.Mathlib.Omega.{arith}
use lib.ListN.{get_or}
use lib.Bits.{bit_xor, xor_zero_r}
use Rattle.steps.specs.States.{held}
use Rattle.steps.proofs.Copies.{copied-start, copied_next, copied-end}
use Rattle.steps.proofs.copy_rows.Goals as goal

pub loop-i-init : goal.loop-i-init
loop-i-init c = (c.requires.values_length, omega arith, copied-start _ _ c.requires.to_masks, copied-start _ _ (c.requires.to_values ∙ sym c.requires.values_length))

pub loop-i-preserved : goal.loop-i-preserved
loop-i-preserved c =
    let l = c.loop-i in
    let h = c.loop-i-test.true in
    let none = c.requires.apart l.i h in
    let m = get_or c.args.mask.now l.i 0 in
    let v = get_or c.args.value.now l.i 0 in (
      l.invariant.0,
      omega arith,
      copied_next _ l.tmask l.i _ (ap (bit_xor m) none ∙ xor_zero_r m) (omega arith) l.invariant.2,
      copied_next _ l.tvalue l.i _ (ap (bit_xor v) none ∙ xor_zero_r v) (omega arith) l.invariant.3,
    )

pub returns : goal.returns
returns c =
    let l = c.loop-i in
    let m = copied-end _ l.tmask l.i (omega arith) l.invariant.2 in
    let v = copied-end _ l.tvalue l.i (omega arith) l.invariant.3 in
    λ ι. held (m ι) (v ι)
