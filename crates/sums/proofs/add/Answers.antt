-- `sums::add` meets its contract: the two wrapping sums are the extremes. Assumes nothing.
use Rattle.std.proofs.Common.{refl}
use Rattle.sums.proofs.Results.{add-result}
use Rattle.sums.proofs.add.Goals as goal

pub returns : goal.returns
returns c =
    let a = c.args in
    add-result a.w 32 c.requires.0 a.a.mask a.a.value a.b.mask a.b.value _ _ _ _ c.from_extremes.ensures c.requires.1 refl refl
