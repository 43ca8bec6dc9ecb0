-- `logic::logical::xor` meets its contract, by `xor-result`. Assumes nothing.
use Rattle.logic.proofs.BitwiseResults.{xor-result}
use Rattle.logic.proofs.logical.xor.Goals as goal

pub returns : goal.returns
returns c = let a = c.args in xor-result a.w a.a.mask a.a.value a.b.mask a.b.value 32 c.requires.0 c.requires.1
