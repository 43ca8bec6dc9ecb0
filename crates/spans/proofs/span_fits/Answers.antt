-- `spans::span_fits` meets its contract. The invariant: the test of all rows is that of the rows from i on. Assumes nothing.
use mathlib.Core.Path.{sym, ◌∙◌}
use mathlib.Core.Bool.{Bool}
use Prim.Native.Nat.{ℕ}
use mathlib.Core.List.{List}
use borrow.Author.Tests.{eq-eqb, ne_eqb}
use lib.Dec.{eqb}
use Rattle.operations.specs.Record.{width_at}
use Rattle.spans.proofs.Turns.{rest-start, rest-goes-on, rest-stops, rest_end}
use native.Mathlib.Omega.{arith}
use Rattle.spans.proofs.span_fits.Goals as goal

abbrev test : List ℕ → ℕ → ℕ → Bool
test width w i = eqb w (width_at width i)

pub loop-i-init : goal.loop-i-init
loop-i-init c = (omega arith, rest-start (test c.args.width.now c.args.w) c.args.base c.args.n)

pub returns-then-w-width : goal.returns-then-w-width
returns-then-w-width c =
    let a = c.args in
    sym (c.loop-i.invariant.1 ∙ rest-stops (test a.width.now a.w) a.base a.n c.loop-i.i c.loop-i-test.true (ne_eqb _ _ c.if-w-width.true))

pub loop-i-preserved : goal.loop-i-preserved
loop-i-preserved c =
    let a = c.args in
    (omega arith, c.loop-i.invariant.1 ∙ rest-goes-on (test a.width.now a.w) a.base a.n c.loop-i.i c.loop-i-test.true (eq-eqb _ _ c.if-w-width.false))

pub returns : goal.returns
returns c =
    let a = c.args in
    sym (c.loop-i.invariant.1 ∙ rest_end (test a.width.now a.w) a.base a.n c.loop-i.i c.loop-i-test.false)
