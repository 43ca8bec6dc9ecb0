-- `orders::inputs::check_both_rows` meets its contract. The invariant: the verdict on all rows is that on the rows from i on. Assumes nothing.
use mathlib.Core.Path.{sym, ap, ◌∙◌}
use mathlib.Core.List.{List}
use Prim.Native.Nat.{ℕ}
use native.Mathlib.Omega.{arith}
use lib.ListN.{length}
use Rattle.checks.specs.Check.{Check, placed}
use Rattle.checks.specs.Model.{verdict_model}
use Rattle.checks.proofs.VerdictParts.{exit, rest-start, rest_end, turn-stops, turn-goes-on}
use Rattle.steps.specs.States.{held}
use Rattle.orders.specs.Order.{compare_row_faults}
use Rattle.orders.proofs.inputs.check_both_rows.Goals as goal

abbrev faults : List ℕ → List ℕ → List ℕ → List ℕ → List ℕ → ℕ → List Check
faults width ma va mb vb i = placed i (compare_row_faults width (held ma va) (held mb vb) i)

pub loop-i-init : goal.loop-i-init
loop-i-init c =
    (c.requires.0.masks_length, c.requires.0.values_length, c.requires.1.masks_length, c.requires.1.values_length, omega arith, rest-start (faults c.args.width.now c.args.ma.now c.args.va.now c.args.mb.now c.args.vb.now) (length c.args.width.now))

pub returns-in_err-check_two_vectors : goal.returns-in_err-check_two_vectors
returns-in_err-check_two_vectors c =
    let a = c.args in
    let i = c.loop-i.i in
    ap verdict_model (exit _ _ c.from_residual.ensures.1)
    ∙ sym (c.loop-i.invariant.5 ∙ turn-stops (faults c.args.width.now c.args.ma.now c.args.va.now c.args.mb.now c.args.vb.now) (length c.args.width.now) c.loop-i.i c.loop-i-test.true c.check_two_vectors.result c.check_two_vectors.ensures _ c.in_err-check_two_vectors.was)

pub loop-i-preserved : goal.loop-i-preserved
loop-i-preserved c =
    let a = c.args in
    let i = c.loop-i.i in
    let v = c.loop-i.invariant in (
      v.0,
      v.1,
      v.2,
      v.3,
      omega arith,
      v.5 ∙ turn-goes-on (faults c.args.width.now c.args.ma.now c.args.va.now c.args.mb.now c.args.vb.now) (length c.args.width.now) c.loop-i.i c.loop-i-test.true c.check_two_vectors.result c.check_two_vectors.ensures c.in_ok-check_two_vectors.was,
    )

pub returns : goal.returns
returns c =
    sym (c.loop-i.invariant.5 ∙ rest_end (faults c.args.width.now c.args.ma.now c.args.va.now c.args.mb.now c.args.vb.now) (length c.args.width.now) c.loop-i.i c.loop-i-test.false)
