-- `logic::movement::rotl_plane` meets its contract, by `rotl-word`. Assumes nothing.
use Rattle.std.proofs.Common.{◌-◌, ◌*◌, ◌/◌, ◌%◌, ◌^◌, ap, ◌∙◌, mod-lt, arith}
use lib.Bits.{bit_and, bit_or}
use Rattle.logic.proofs.Rotations.{rotl-word}
use Rattle.logic.proofs.movement.rotl_plane.Goals as goal

pub overflow_shl-result : goal.overflow_shl-result
overflow_shl-result c = omega (arith, mod-lt c.args.p c.requires.0)

pub overflow_sub-result-2 : goal.overflow_sub-result-2
overflow_sub-result-2 c = omega (arith, mod-lt c.args.p c.requires.0)

pub returns : goal.returns
returns c =
    let a = c.args in
    let h = c.requires in
    ap (bit_and (bit_or (a.x * 2 ^ (a.p % a.w) % 2 ^ 32) (a.x / 2 ^ (a.w - 1 - a.p % a.w) / 2 ^ 1))) c.width_mask.ensures
    ∙ rotl-word a.w a.p a.x 32 h.0 h.1 h.2
