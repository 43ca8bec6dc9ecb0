-- `range_search::greatest_part` meets its contract. What is taken so far is at most the bound, and together with what will be taken of the bits below k it is
-- the greatest part. Assumes nothing.
use mathlib.Core.Path.{sym, ap, ◌∙◌, subst}
use Prim.Native.Nat.{◌-◌}
use native.Mathlib.Nat.{sub-zero, zero-add}
use native.Mathlib.Omega.{arith}
use Rattle.range_search.specs.Extremes.{Greatest}
use Rattle.range_search.specs.Encoding.{PartUpTo}
use Rattle.range_search.proofs.Parts.{part_below, taken-fits, greatest-part, turn, turns-end}
use Rattle.range_search.proofs.greatest_part.Goals as goal

pub loop-k-init : goal.loop-k-init
loop-k-init c = let a = c.args in (omega arith, (omega arith, zero-add _ ∙ ap (part_below a.w a.m) (sub-zero a.bound)))

pub fitting_bit-part-requires : goal.fitting_bit-part-requires
fitting_bit-part-requires c = let l = c.loop-k.invariant.0 in let p = c.requires.0 in let t = c.loop-k-test.true in omega arith

pub overflow_add-part : goal.overflow_add-part
overflow_add-part c =
    let l = c.loop-k in
    let a = c.args in
    let t = taken-fits a.m (l.k - 1) (a.bound - l.part) in
    let i = c.loop-k.invariant.1.0 in
    let f = c.ranges.bound in
    omega arith

pub loop-k-preserved : goal.loop-k-preserved
loop-k-preserved c =
    let l = c.loop-k in
    let a = c.args in
    let t = taken-fits a.m (l.k - 1) (a.bound - l.part) in
    let i = l.invariant.1.0 in
    let h = l.invariant.0 in
    (omega arith, (omega arith, turn l.k a.m a.bound l.part c.fitting_bit-part.result c.loop-k-test.true c.fitting_bit-part.ensures ∙ l.invariant.1.1))

pub returns : goal.returns
returns c =
    let l = c.loop-k in
    let a = c.args in
    subst (Greatest (PartUpTo a.m a.bound)) (sym l.invariant.1.1 ∙ turns-end l.k a.m a.bound l.part c.loop-k-test.false) (greatest-part a.w a.m a.bound c.requires.1)

pub overflow_sub-bound : goal.overflow_sub-bound
overflow_sub-bound c = c.loop-k.invariant.1.0
