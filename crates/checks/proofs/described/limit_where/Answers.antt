-- `checks::described::limit_where` meets its contract. Assumes nothing.
use mathlib.Core.Path.{sym, ap}
use mathlib.Core.Bool.{Bool, cond}
use Rattle.checks.proofs.described.limit_where.Goals as goal

pub returns-then-used : goal.returns-then-used
returns-then-used c = let a = c.args in ap (λ (b : Bool). cond b a.limit 1) (sym c.if-used.true)

pub returns : goal.returns
returns c = let a = c.args in ap (λ (b : Bool). cond b a.limit 1) (sym c.if-used.false)
