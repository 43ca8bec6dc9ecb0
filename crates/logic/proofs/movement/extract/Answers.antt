-- `logic::movement::extract` meets its contract, by the law of kernels that move bits. Assumes nothing.
use Rattle.std.proofs.Common.{refl, arith}
use Rattle.operations.specs.Moves.{op_extract}
use Rattle.operations.specs.Kinds.{kinds}
use Rattle.logic.proofs.Readies.{parameter-below, extract-fits}
use Rattle.logic.proofs.Moving.{moving-result}
use Rattle.logic.proofs.Sources.{extract-moved}
use Rattle.logic.proofs.movement.extract.Goals as goal

pub extract_plane-requires : goal.extract_plane-requires
unfolding op_extract
extract_plane-requires c =
    let R = c.requires.1 in
    (R.wide, omega (arith, extract-fits R), parameter-below refl R)

pub extract_plane-requires-2 : goal.extract_plane-requires-2
unfolding op_extract
extract_plane-requires-2 c =
    let R = c.requires.1 in
    (R.wide, omega (arith, extract-fits R), parameter-below refl R)

pub returns : goal.returns
unfolding kinds
returns c =
    let R = c.requires.1 in
    moving-result 9 refl R (extract-moved c.args.wt c.args.wa c.args.p (extract-fits R)) c.extract_plane.ensures c.extract_plane-2.ensures
