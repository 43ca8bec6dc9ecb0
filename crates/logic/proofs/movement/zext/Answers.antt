-- `logic::movement::zext` meets its contract, by the law of kernels that move bits. Assumes nothing.
use Rattle.std.proofs.Common.{refl}
use Rattle.operations.specs.Kinds.{kinds}
use Rattle.logic.proofs.Moving.{moving-result}
use Rattle.logic.proofs.Sources.{zext-moved}
use Rattle.logic.proofs.movement.zext.Goals as goal

pub returns : goal.returns
unfolding kinds
returns c = moving-result 11 refl c.requires.1 (zext-moved c.args.wt c.args.wa) refl refl
