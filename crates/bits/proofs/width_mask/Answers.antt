-- `bits::width_mask` meets its contract: a mask of 32 bits less its 32 - w lowest ones. Assumes nothing.
use Rattle.bits.proofs.Constants.{ones_shr}
use Rattle.bits.proofs.width_mask.Goals as goal

pub returns : goal.returns
returns c = ones_shr c.args.w 32 c.requires.1
