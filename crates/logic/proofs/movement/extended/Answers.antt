-- `logic::movement::extended` meets its contract, by `extended-word`. Assumes nothing.
use Rattle.std.proofs.Common.{ap, ◌∙◌}
use lib.Bits.{bit_and}
use Rattle.logic.proofs.Planes.{extended-word}
use Rattle.logic.proofs.movement.extended.Goals as goal

pub returns : goal.returns
returns c signed w f h i l =
    let a = c.args in
    let d = c.wrapping_sub_u32 in
    ap (bit_and d.result) c.width_mask.ensures ∙ extended-word a.wt w a.x h i l 32 a.t d.result c.requires.1 d.ensures.value signed f
