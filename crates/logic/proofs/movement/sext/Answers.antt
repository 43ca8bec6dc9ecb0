-- `logic::movement::sext` meets its contract, by the law of kernels that move bits. Assumes nothing.
use Rattle.std.proofs.Common.{refl}
use Rattle.operations.specs.Kinds.{kinds}
use Rattle.logic.proofs.Readies.{sext-fits}
use Rattle.logic.proofs.Moving.{moving-result}
use Rattle.logic.proofs.Sources.{sext-moved}
use Rattle.logic.proofs.movement.sext.Goals as goal

pub sext_plane-requires : goal.sext_plane-requires
sext_plane-requires c =
    let R = c.requires.1 in
    (R.widths.0, sext-fits R, c.requires.0, R.formed.0.mask_below)

pub sext_plane-requires-2 : goal.sext_plane-requires-2
sext_plane-requires-2 c =
    let R = c.requires.1 in
    (R.widths.0, sext-fits R, c.requires.0, R.formed.0.value_below)

pub returns : goal.returns
unfolding kinds
returns c =
    let R = c.requires.1 in
    moving-result 12 refl R (sext-moved c.args.wt c.args.wa R.widths.0) c.sext_plane.ensures c.sext_plane-2.ensures
