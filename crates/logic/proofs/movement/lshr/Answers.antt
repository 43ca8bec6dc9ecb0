-- `logic::movement::lshr` meets its contract, by the law of kernels that move bits. Assumes nothing.
use Rattle.std.proofs.Common.{refl}
use Rattle.operations.specs.Moves.{op_lshr}
use Rattle.operations.specs.Kinds.{kinds}
use Rattle.logic.proofs.Readies.{parameter-below}
use Rattle.logic.proofs.Moving.{moving-result}
use Rattle.logic.proofs.Sources.{lshr-moved}
use Rattle.logic.proofs.movement.lshr.Goals as goal

pub overflow_shr-result : goal.overflow_shr-result
unfolding op_lshr
overflow_shr-result c = parameter-below refl c.requires.1

pub overflow_shr-result-2 : goal.overflow_shr-result-2
unfolding op_lshr
overflow_shr-result-2 c = parameter-below refl c.requires.1

pub returns : goal.returns
unfolding kinds
returns c = moving-result 6 refl c.requires.1 (lshr-moved c.args.w c.args.p) refl refl
