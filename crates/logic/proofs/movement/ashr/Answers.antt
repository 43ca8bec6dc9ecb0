-- `logic::movement::ashr` meets its contract, by the law of kernels that move bits. Assumes nothing.
use Rattle.std.proofs.Common.{refl}
use Rattle.operations.specs.Kinds.{kinds}
use Rattle.logic.proofs.Moving.{moving-result}
use Rattle.logic.proofs.Sources.{ashr-moved}
use Rattle.logic.proofs.movement.ashr.Goals as goal

pub returns : goal.returns
unfolding kinds
returns c =
    moving-result 7 refl c.requires.1 (ashr-moved c.args.w c.args.p c.requires.1.wide) c.ashr_plane.ensures c.ashr_plane-2.ensures
