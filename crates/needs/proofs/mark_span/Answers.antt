-- `needs::mark_span` meets its contract. The invariant: what is yet to be marked makes up the whole. Assumes nothing.
use mathlib.Core.Path.{refl, sym, ◌∙◌}
use Prim.Native.Nat.{◌+◌}
use native.Mathlib.Omega.{arith}
use lib.ListN.{length-set}
use Rattle.needs.proofs.Marks.{in_span, rest-start, rest-next, rest_end, bit-set, set-bytes}
use Rattle.needs.proofs.mark_span.Goals as goal

-- row i of the span is there
pub overflow_add-need : goal.overflow_add-need
overflow_add-need c =
    let h = in_span c.requires.1 c.loop-i.i c.loop-i-test.true in
    let e = c.loop-i.invariant.1 in
    omega arith

pub bounds-need-base : goal.bounds-need-base
bounds-need-base c =
    let h = in_span c.requires.1 c.loop-i.i c.loop-i-test.true in
    let e = c.loop-i.invariant.1 in
    omega arith

pub overflow_add-need-in-loop-i : goal.overflow_add-need-in-loop-i
overflow_add-need-in-loop-i c =
    let h = in_span c.requires.1 c.loop-i.i c.loop-i-test.true in
    let e = c.loop-i.invariant.1 in
    omega arith

pub bounds-need-base-in-loop-i : goal.bounds-need-base-in-loop-i
bounds-need-base-in-loop-i c =
    let h = in_span c.requires.1 c.loop-i.i c.loop-i-test.true in
    let e = c.loop-i.invariant.1 in
    omega arith

pub loop-i-init : goal.loop-i-init
loop-i-init c = (omega arith, refl, c.requires.0, rest-start c.args.base c.args.n c.args.need.now)

pub loop-i-preserved : goal.loop-i-preserved
loop-i-preserved c =
    let l = c.loop-i in
    let one = bit-set _ (l.invariant.2.most (c.args.base + l.i)) in (
      omega arith,
      length-set l.need _ _ ∙ l.invariant.1,
      set-bytes l.need _ _ (omega arith) l.invariant.2,
      l.invariant.3 ∙ rest-next c.args.base c.args.n l.i c.loop-i-test.true l.need _ one,
    )

pub returns : goal.returns
returns c =
    let l = c.loop-i in
    sym (l.invariant.3 ∙ rest_end c.args.base c.args.n l.i c.loop-i-test.false l.need)
