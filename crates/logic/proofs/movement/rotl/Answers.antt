-- `logic::movement::rotl` meets its contract, by the law of kernels that move bits. Assumes nothing.
use Rattle.std.proofs.Common.{refl}
use Rattle.operations.specs.Kinds.{kinds}
use Rattle.logic.proofs.Moving.{moving-result}
use Rattle.logic.proofs.Rotations.{rotl-moved}
use Rattle.logic.proofs.movement.rotl.Goals as goal

pub returns : goal.returns
unfolding kinds
returns c =
    moving-result 8 refl c.requires.1 (rotl-moved c.args.w c.args.p) c.rotl_plane.ensures c.rotl_plane-2.ensures
