-- `spans::span_marked` meets its contract. The invariant: whether no row is marked is told by the rows from i on. Assumes nothing.
use mathlib.Core.Path.{sym, ap, ◌∙◌}
use mathlib.Core.Bool.{Bool, not}
use mathlib.Core.List.{List}
use Prim.Native.Nat.{ℕ}
use borrow.Author.Tests.{eq-eqb, ne_eqb}
use lib.Dec.{eqb}
use lib.ListN.{get_or}
use Rattle.operations.specs.Memory.{span}
use Rattle.spans.proofs.Turns.{rest-start, rest-goes-on, rest-stops, rest_end, some-not-all}
use native.Mathlib.Omega.{arith}
use Rattle.spans.proofs.span_marked.Goals as goal

abbrev marked : List ℕ → ℕ → Bool
marked marks i = eqb (get_or marks i 0) 1

abbrev is_free : List ℕ → ℕ → Bool
is_free marks i = not (marked marks i)

pub loop-i-init : goal.loop-i-init
loop-i-init c = (omega arith, rest-start (is_free c.args.marks.now) c.args.base c.args.n)

pub returns-then-marks-base-eq1 : goal.returns-then-marks-base-eq1
returns-then-marks-base-eq1 c =
    let a = c.args in
    let o = is_free a.marks.now in
    sym (some-not-all (marked a.marks.now) (span a.base a.n)
    ∙ ap not (c.loop-i.invariant.1 ∙ rest-stops o a.base a.n c.loop-i.i c.loop-i-test.true (ap not (eq-eqb _ _ c.if-marks-base-eq1.true))))

pub loop-i-preserved : goal.loop-i-preserved
loop-i-preserved c =
    let a = c.args in
    (omega arith, c.loop-i.invariant.1 ∙ rest-goes-on (is_free a.marks.now) a.base a.n c.loop-i.i c.loop-i-test.true (ap not (ne_eqb _ _ c.if-marks-base-eq1.false)))

pub returns : goal.returns
returns c =
    let a = c.args in
    sym (some-not-all (marked a.marks.now) (span a.base a.n)
    ∙ ap not (c.loop-i.invariant.1 ∙ rest_end (is_free a.marks.now) a.base a.n c.loop-i.i c.loop-i-test.false))
