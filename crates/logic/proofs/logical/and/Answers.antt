-- `logic::logical::and` meets its contract, by `and-result`. Assumes nothing.
use Rattle.logic.proofs.BitwiseResults.{and-result}
use Rattle.logic.proofs.logical.and.Goals as goal

pub returns : goal.returns
returns c = let a = c.args in and-result a.w a.a.mask a.a.value a.b.mask a.b.value c.requires.1
