-- `sums::sub` meets its contract: the two wrapping differences are the extremes. Assumes nothing.
use Prim.Native.Nat.{◌^◌, ◌<◌}
use Rattle.std.proofs.Common.{arith}
use lib.Bits.{or_lt}
use Rattle.sums.proofs.Results.{sub-result}
use Rattle.sums.proofs.sub.Goals as goal

pub returns : goal.returns
returns c =
    let a = c.args in
    let p : a.a.value < 2 ^ 32 = omega arith in
    let q : a.a.mask < 2 ^ 32 = omega arith in
    let r : a.b.value < 2 ^ 32 = omega arith in
    let s : a.b.mask < 2 ^ 32 = omega arith in
    let t = or_lt 32 a.a.value a.a.mask p q in
    let u = or_lt 32 a.b.value a.b.mask r s in
    sub-result a.w 32 c.requires.0 a.a.mask a.a.value a.b.mask a.b.value _ _ _ _ c.from_extremes.ensures c.requires.1 (omega arith) (omega arith)
