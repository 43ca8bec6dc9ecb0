-- `column_sum` meets its contract. The loop's invariant: the total is the column sum less that of the bits that are left. Assumes nothing.
use Prim.Native.Nat.{◌+◌}
use native.Mathlib.Nat.{lt_trans}
use native.Mathlib.Omega.{arith}
use lib.Bits.{and_le_r}
use lib.Pow.{pow_pos}
use mir.Val.{to_z}
use mir.Syntax.{w64}
use Rattle.bits.proofs.LowestBit.{clear-less}
use Rattle.products.proofs.Turns.{left-start, left_end, place-within, turn-fits, turn}
use Rattle.products.proofs.column_sums.column_sum.Goals as goal

pub loop-rest-init : goal.loop-rest-init
loop-rest-init c =
    let a = c.args in
    (omega (arith, and_le_r a.a c.width_mask.result, c.width_mask.ensures, pow_pos (a.k + 1)), left-start a.k a.a a.b _ c.width_mask.ensures)

pub row-total-requires : goal.row-total-requires
row-total-requires c =
    let l = c.loop-rest in
    (place-within c.args.k l.rest c.requires c.loop-rest-test.true l.invariant.0, c.requires)

pub overflow_add-total : goal.overflow_add-total
overflow_add-total c =
    let l = c.loop-rest in
    turn-fits c.args.k l.rest c.requires c.loop-rest-test.true l.invariant.0 c.args.a c.args.b l.total-bits c.row-total.result l.invariant.1 c.row-total.ensures

pub loop-rest-smaller : goal.loop-rest-smaller
loop-rest-smaller c = clear-less c.loop-rest.rest c.loop-rest-test.true

pub loop-rest-preserved : goal.loop-rest-preserved
loop-rest-preserved c =
    let l = c.loop-rest in
    let h = c.loop-rest-test.true in (
      lt_trans (clear-less l.rest h) l.invariant.0,
      turn c.args.k l.rest c.requires h l.invariant.0 c.args.a c.args.b l.total-bits c.row-total.result l.invariant.1 c.row-total.ensures,
    )

pub returns : goal.returns
returns c =
    let a = c.args in
    let l = c.loop-rest in
    left_end a.k a.a a.b l.rest (to_z w64 l.total-bits) c.loop-rest-test.false l.invariant.1
