-- `logic::comparison::tested` meets its contract, case by case. Assumes nothing.
use Rattle.std.proofs.Common.{Bool, not, T, sym, subst}
use Rattle.logic.proofs.Tests.{tested-0, tested-X, tested-1}
use Rattle.logic.proofs.comparison.tested.Goals as goal

pub returns-then-not-holds : goal.returns-then-not-holds
returns-then-not-holds c = let a = c.args in tested-0 a.fails a.holds (subst (λ (t : Bool). T (not t)) (sym c.if-not-holds.true) tt)

pub returns-then-fails : goal.returns-then-fails
returns-then-fails c =
    let a = c.args in
    tested-X a.fails a.holds (subst T (sym c.if-fails.true) tt) (subst T (sym c.if-not-holds.false) tt)

pub returns : goal.returns
returns c =
    let a = c.args in
    tested-1 a.fails a.holds (subst (λ (t : Bool). T (not t)) (sym c.if-fails.false) tt) (subst T (sym c.if-not-holds.false) tt)
