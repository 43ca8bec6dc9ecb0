-- `logic::movement::extract_plane` meets its contract, by `extract-word`. Assumes nothing.
use Rattle.std.proofs.Common.{◌/◌, ◌^◌, ap, ◌∙◌}
use lib.Bits.{bit_and}
use Rattle.logic.proofs.Planes.{extract-word}
use Rattle.logic.proofs.movement.extract_plane.Goals as goal

pub returns : goal.returns
returns c =
    let a = c.args in
    ap (bit_and (a.x / 2 ^ a.p)) c.width_mask.ensures ∙ extract-word a.wt a.wa a.p a.x
