-- `logic::movement::copy` meets its contract, by the law of kernels that move bits. Assumes nothing.
use Rattle.std.proofs.Common.{refl}
use Rattle.operations.specs.Kinds.{kinds}
use Rattle.logic.proofs.Moving.{moving-result}
use Rattle.logic.proofs.Sources.{copy-moved}
use Rattle.logic.proofs.movement.copy.Goals as goal

pub returns : goal.returns
unfolding kinds
returns c = moving-result 0 refl c.requires.1 (copy-moved c.args.w) refl refl
