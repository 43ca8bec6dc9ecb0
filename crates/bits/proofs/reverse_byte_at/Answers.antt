-- `bits::reverse_byte_at` meets its contract: the byte is `x / 2 ^ k % 2 ^ 8`. Assumes nothing.
use Rattle.std.proofs.Common.{ap, ◌∙◌, ◌/◌, ◌^◌}
use lib.Bits.{and_mask}
use Rattle.bits.specs.Reversed.{reversed}
use Rattle.bits.proofs.Reversed.{reversed-mod, reversed-below}
use Rattle.bits.proofs.reverse_byte_at.Goals as goal

pub returns : goal.returns
returns c =
    let y = c.args.x / 2 ^ c.args.k in
    let e = c.reverse_byte.ensures ∙ ap (reversed 8) (and_mask y 8) ∙ reversed-mod 8 y in
    (e, rw e (reversed-below 8 y))
