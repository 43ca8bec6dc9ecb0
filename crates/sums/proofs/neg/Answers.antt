-- `sums::neg` meets its contract: the two wrapping differences from 0 are the extremes. Assumes nothing.
use Rattle.sums.proofs.Results.{neg-result}
use Rattle.sums.proofs.neg.Goals as goal

pub returns : goal.returns
returns c =
    let a = c.args in
    neg-result a.w 32 c.requires.0 a.a.mask a.a.value _ _ _ _ c.from_extremes.ensures c.requires.1 c.wrapping_neg-least.ensures c.wrapping_neg-greatest.ensures
