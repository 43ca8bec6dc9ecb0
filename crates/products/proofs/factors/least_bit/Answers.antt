-- `least_bit` meets its contract: the sum of two rows is below 2 ^ 32. Assumes nothing.
use mathlib.Core.Path.{sym, ap}
use Prim.Native.Nat.{◌+◌, ◌-◌, ◌^◌}
use native.Mathlib.Omega.{arith}
use borrow.Author.Tests.{le-leb, lt-leb}
use Rattle.bits.specs.Bit.{digit}
use Rattle.products.specs.Factors.{low_row, least_bit}
use Rattle.bits.proofs.Words.{shifted_one}
use Rattle.products.proofs.Sizes.{row-size}
use Rattle.products.proofs.factors.least_bit.Goals as goal

pub overflow_add-low_row : goal.overflow_add-low_row
overflow_add-low_row c =
    let a = c.args in
    let h = c.requires in
    omega (arith, row-size a.k a.i a.b h.0 h.1, row-size a.k (a.k - a.i) a.a (omega arith) h.1)

pub returns-then-low_row-k : goal.returns-then-low_row-k
unfolding least_bit
returns-then-low_row-k c =
    let a = c.args in
    let h = c.requires in
    let e = shifted_one 32 a.k h.1 in
    (sym (ap digit (le-leb (low_row a.k a.i a.b + low_row a.k (a.k - a.i) a.a) (2 ^ a.k) (omega arith))), omega arith)

pub returns : goal.returns
unfolding least_bit
returns c =
    let a = c.args in
    let h = c.requires in
    let e = shifted_one 32 a.k h.1 in
    (sym (ap digit (lt-leb (low_row a.k a.i a.b + low_row a.k (a.k - a.i) a.a) (2 ^ a.k) (omega arith))), omega arith)
