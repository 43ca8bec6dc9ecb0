-- `logic::movement::shl` meets its contract, by the law of kernels that move bits. Assumes nothing.
use Rattle.std.proofs.Common.{refl}
use Rattle.operations.specs.Moves.{op_shl}
use Rattle.operations.specs.Kinds.{kinds}
use Rattle.logic.proofs.Readies.{parameter-below}
use Rattle.logic.proofs.Moving.{moving-result}
use Rattle.logic.proofs.Sources.{shl-moved}
use Rattle.logic.proofs.movement.shl.Goals as goal

pub shl_plane-requires : goal.shl_plane-requires
unfolding op_shl
shl_plane-requires c = (c.requires.1.wide, c.requires.0, parameter-below refl c.requires.1)

pub shl_plane-requires-2 : goal.shl_plane-requires-2
unfolding op_shl
shl_plane-requires-2 c = (c.requires.1.wide, c.requires.0, parameter-below refl c.requires.1)

pub returns : goal.returns
unfolding kinds
returns c =
    moving-result 5 refl c.requires.1 (shl-moved c.args.w c.args.p) c.shl_plane.ensures c.shl_plane-2.ensures
