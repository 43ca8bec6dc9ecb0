-- `logic::comparison::slt` meets its contract, by `slt-result`. Assumes nothing.
use Rattle.logic.proofs.Comparisons.{slt-result}
use Rattle.logic.proofs.comparison.slt.Goals as goal

pub returns : goal.returns
returns c =
    let a = c.args in
    slt-result a.w a.a.mask a.a.value a.b.mask a.b.value _ _ 32 _ _ c.requires.0 c.requires.1 c.flipped-la.ensures c.flipped-lb.ensures c.tested.ensures
