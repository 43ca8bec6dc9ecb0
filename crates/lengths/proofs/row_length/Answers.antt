-- `lengths::row_length`, by the lock. Assumes nothing.
use mathlib.Core.Path.{ap}
use native.Mathlib.Omega.{arith}
use lib.ListN.{length}
use Rattle.vectors.specs.Row.{row}
use Rattle.grammar.proofs.LockWords.{lock-word, open-word}
use Rattle.grammar.proofs.Sizes.{row-bytes}
use Rattle.lengths.proofs.row_length.Goals as goal

pub returns-then-lock-eq1 : goal.returns-then-lock-eq1
returns-then-lock-eq1 c mask value =
    let a = c.args in
    omega (arith, row-bytes (record { lock = a.lock; vector = row a.width mask value }), ap length (lock-word a.lock c.if-lock-eq1.true))

pub returns : goal.returns
returns c mask value =
    let a = c.args in
    omega (arith, row-bytes (record { lock = a.lock; vector = row a.width mask value }), ap length (open-word a.lock c.if-lock-eq1.false))
