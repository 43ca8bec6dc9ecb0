-- `logic::comparison::eq` meets its contract, by `eq-result`. Assumes nothing.
use Rattle.logic.proofs.Comparisons.{eq-result}
use Rattle.logic.proofs.comparison.eq.Goals as goal

pub returns : goal.returns
returns c =
    let a = c.args in
    eq-result a.w a.a.mask a.a.value a.b.mask a.b.value _ _ 32 c.requires.0 c.requires.1 c.tested.ensures
