-- `low_row` meets its contract: no bit is shifted out. Assumes nothing.
use Prim.Native.Nat.{◌-◌}
use native.Mathlib.Omega.{arith}
use lib.Pow.{pow_pos}
use Rattle.bits.proofs.Words.{shifted_one}
use Rattle.products.proofs.Words.{low-row-word}
use Rattle.products.proofs.column_sums.low_row.Goals as goal

pub overflow_sub-result-2 : goal.overflow_sub-result-2
overflow_sub-result-2 c =
    let a = c.args in
    let h = c.requires in
    let e = shifted_one 32 (a.k - a.i) (omega arith) in
    omega (arith, pow_pos (a.k - a.i))

pub returns : goal.returns
returns c = low-row-word 32 c.args.k c.args.i c.args.b c.requires.0 c.requires.1
