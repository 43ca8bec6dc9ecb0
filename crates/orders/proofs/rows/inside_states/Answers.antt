-- `orders::rows::inside_states` meets its contract. The invariant: every row before i lies inside. Assumes nothing.
use mathlib.Core.Path.{◌≡◌, sym, ◌∙◌}
use mathlib.Core.Bool.{Bool, true}
use mathlib.Core.List.{List}
use Prim.Native.Nat.{ℕ}
use native.Mathlib.Omega.{arith}
use Rattle.bits.proofs.Below.{below_next, all_below-true, all_below-false}
use Rattle.operations.specs.Record.{width_at}
use Rattle.checks.specs.Table.{row_at}
use Rattle.steps.specs.States.{held}
use Rattle.orders.specs.Order.{inside_row, inside_states}
use Rattle.orders.proofs.rows.inside_states.Goals as goal

abbrev test : List ℕ → List ℕ → List ℕ → List ℕ → List ℕ → ℕ → Bool
test width ma va mb vb i = inside_row (row_at width (held ma va) i) (row_at width (held mb vb) i)

pub loop-i-init : goal.loop-i-init
loop-i-init c =
    (c.requires.0.masks_length, c.requires.0.values_length, c.requires.1.masks_length, c.requires.1.values_length, omega arith, λ j h. absurd (omega arith))

pub returns-then-not-inside_row : goal.returns-then-not-inside_row
unfolding inside_states
returns-then-not-inside_row c =
    sym (all_below-false _ (test c.args.width.now c.args.ma.now c.args.va.now c.args.mb.now c.args.vb.now) c.loop-i.i c.loop-i-test.true (sym (c.inside_row.ensures (width_at c.args.width.now c.loop-i.i)) ∙ c.if-not-inside_row.true))

pub loop-i-preserved : goal.loop-i-preserved
loop-i-preserved c =
    let v = c.loop-i.invariant in
    let t = (test c.args.width.now c.args.ma.now c.args.va.now c.args.mb.now c.args.vb.now) in
    (v.0, v.1, v.2, v.3, omega arith, below_next (λ j. t j ≡ true) c.loop-i.i v.5 (sym (c.inside_row.ensures (width_at c.args.width.now c.loop-i.i)) ∙ c.if-not-inside_row.false))

pub returns : goal.returns
unfolding inside_states
returns c =
    sym (all_below-true _ (test c.args.width.now c.args.ma.now c.args.va.now c.args.mb.now c.args.vb.now) (λ j h. c.loop-i.invariant.5 j (omega (arith, c.loop-i-test.false))))
