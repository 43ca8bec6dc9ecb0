-- `join_if` meets its contract. Assumes nothing.
use mathlib.Core.Path.{sym, ap}
use mathlib.Core.Bool.{Bool}
use Rattle.vectors.specs.Row.{row_of}
use Rattle.lookups.specs.Lookup.{join_if}
use Rattle.lookups.proofs.join_if.Goals as goal

pub returns-then-asked : goal.returns-then-asked
returns-then-asked c w = let a = c.args in ap (λ (b : Bool). join_if b (row_of w a.x) (row_of w a.y)) (sym c.if-asked.true)

pub returns : goal.returns
returns c w = let a = c.args in ap (λ (b : Bool). join_if b (row_of w a.x) (row_of w a.y)) (sym c.if-asked.false)
