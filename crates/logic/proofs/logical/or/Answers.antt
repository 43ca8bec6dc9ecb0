-- `logic::logical::or` meets its contract, by `or-result`. Assumes nothing.
use Rattle.logic.proofs.BitwiseResults.{or-result}
use Rattle.logic.proofs.logical.or.Goals as goal

pub returns : goal.returns
returns c = let a = c.args in or-result a.w a.a.mask a.a.value a.b.mask a.b.value c.requires.1
