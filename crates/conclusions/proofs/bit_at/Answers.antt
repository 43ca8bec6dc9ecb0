-- `conclusions::bit_at` meets its contract: shifted down, then cut to one bit. Assumes nothing.
use Rattle.bits.proofs.Words.{bit_word}
use Rattle.conclusions.proofs.bit_at.Goals as goal

pub returns : goal.returns
returns c = bit_word c.args.x c.args.k
