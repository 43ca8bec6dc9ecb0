-- `logic::comparison::ult` meets its contract, by `ult-result`. Assumes nothing.
use Rattle.logic.proofs.Comparisons.{ult-result}
use Rattle.logic.proofs.comparison.ult.Goals as goal

pub returns : goal.returns
returns c =
    let a = c.args in
    ult-result a.w a.a.mask a.a.value a.b.mask a.b.value _ _ c.requires.1 c.tested.ensures
