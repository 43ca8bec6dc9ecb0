-- `logic::movement::shl_plane` meets its contract, by `shl-word`. Assumes nothing.
use Rattle.std.proofs.Common.{◌*◌, ◌%◌, ◌^◌, ap, ◌∙◌}
use lib.Bits.{bit_and}
use Rattle.logic.proofs.Planes.{shl-word}
use Rattle.logic.proofs.movement.shl_plane.Goals as goal

pub returns : goal.returns
returns c =
    let a = c.args in
    ap (bit_and (a.x * 2 ^ a.p % 2 ^ 32)) c.width_mask.ensures ∙ shl-word a.w a.p a.x 32 c.requires.1
