-- `needs::take_marks` meets its contract. The invariant: the marks before i are taken over. Assumes nothing.
use native.Mathlib.Omega.{arith}
use Rattle.needs.proofs.Taken.{taken_start, taken-end}
use Rattle.needs.proofs.take_marks.Goals as goal

pub loop-i-init : goal.loop-i-init
loop-i-init c = taken_start c.args.marks.now c.args.need.now c.requires

pub bounds-need-i : goal.bounds-need-i
bounds-need-i c = let r = c.loop-i.invariant.room in omega arith

pub returns : goal.returns
returns c =
    let l = c.loop-i in
    let a = c.args in
    (taken-end a.marks.now a.need.now l.need l.i l.invariant c.loop-i-test.false, l.invariant.same_length, l.invariant.bytes)
