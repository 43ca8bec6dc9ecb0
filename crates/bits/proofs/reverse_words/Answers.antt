-- `bits::reverse_words` meets its contract: the table computes to the list of the 256 reversed bytes. Assumes nothing.
use Rattle.std.proofs.Common.{refl}
use Rattle.bits.specs.Bit.{bit, is_set, number}
use Rattle.bits.specs.Counted.{listed}
use Rattle.bits.specs.Reversed.{reversed, reversed_bytes}
use Rattle.bits.proofs.reverse_words.Goals as goal

pub reverse_each-requires : goal.reverse_each-requires
unfolding reversed_bytes listed reversed number is_set bit
reverse_each-requires c = refl
