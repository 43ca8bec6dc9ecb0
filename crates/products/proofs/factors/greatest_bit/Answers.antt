-- `greatest_bit` meets its contract. Assumes nothing.
use mathlib.Core.Path.{sym, ap}
use Prim.Native.Nat.{◌-◌}
use native.Mathlib.Omega.{arith}
use borrow.Author.Tests.{le-leb, lt-leb}
use Rattle.bits.specs.Bit.{digit}
use Rattle.products.specs.Factors.{low_row, greatest_bit}
use Rattle.products.proofs.factors.greatest_bit.Goals as goal

pub returns-then-low_row : goal.returns-then-low_row
unfolding greatest_bit
returns-then-low_row c =
    let a = c.args in
    (sym (ap digit (le-leb (low_row a.k (a.k - a.i) a.a) (low_row a.k a.i a.b) (omega arith))), omega arith)

pub returns : goal.returns
unfolding greatest_bit
returns c =
    let a = c.args in
    (sym (ap digit (lt-leb (low_row a.k (a.k - a.i) a.a) (low_row a.k a.i a.b) (omega arith))), omega arith)
