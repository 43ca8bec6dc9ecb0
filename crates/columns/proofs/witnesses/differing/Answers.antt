-- `differing` meets its contract. Assumes nothing.
use Rattle.std.proofs.Common.{ap}
use lib.Bits.{bit_xor}
use Rattle.columns.specs.Choices.{difference}
use Rattle.columns.proofs.witnesses.differing.Goals as goal

pub returns : goal.returns
unfolding difference
returns c = ap (bit_xor c.args.plain) c.product.ensures
