-- `oracle::plain::rotated` is safe and ends. The bits below k are placed, and k is at most the width; a remainder by the width is below it. Assumes nothing.
use Rattle.std.proofs.Common.{◌+◌, ◌≤◌, mod-lt, arith}
use Rattle.oracle.proofs.plain.rotated.Goals as goal

pub overflow_shl-r : goal.overflow_shl-r
overflow_shl-r c =
    let at = c.args in
    let some : 1 ≤ at.w = omega arith in
    omega (arith, mod-lt (c.loop-k.k + at.p) some)
