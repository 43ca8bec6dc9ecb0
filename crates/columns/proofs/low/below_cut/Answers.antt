-- `below_cut` meets its contract. The loop's invariant: below any place stand no more unknown bits than those that are left there and those that were taken.
-- Assumes nothing.
use Rattle.std.proofs.Common.{refl, lt_of_le_of_lt, arith}
use lib.Bits.{bit_or, and_le_l, or_lt}
use lib.Count.{count_trailing_zeros}
use Rattle.columns.proofs.Taken.{taken_next, taken-end, taken_none}
use Rattle.columns.proofs.low.below_cut.Goals as goal

pub loop-taken-init : goal.loop-taken-init
loop-taken-init c = (c.ranges.ma.fits, c.ranges.mb.fits, omega arith, (λ i. omega arith))

pub returns-then-either-eq0 : goal.returns-then-either-eq0
returns-then-either-eq0 c =
    let l = c.loop-taken in
    let x = l.invariant.3 32 in
    let y = taken_none l.a l.b c.if-either-eq0.true 32 in
    let z = l.invariant.2 in
    (32, refl, omega arith)

pub loop-taken-preserved : goal.loop-taken-preserved
loop-taken-preserved c =
    let l = c.loop-taken in
    let v = l.invariant in (
      lt_of_le_of_lt (and_le_l l.a _) v.0,
      lt_of_le_of_lt (and_le_l l.b _) v.1,
      omega arith,
      (λ i.
          let x = v.3 i in
          let y = taken_next l.a l.b _ refl c.if-either-eq0.false (or_lt 32 l.a l.b v.0 v.1) i in
          omega arith),
    )

pub returns : goal.returns
returns c =
    let l = c.loop-taken in
    let t = count_trailing_zeros 32 (bit_or l.a l.b) in
    let x = l.invariant.3 t in
    let y = taken-end l.a l.b in
    let z = l.invariant.2 in
    (t, c.below_lowest.ensures, omega arith)
