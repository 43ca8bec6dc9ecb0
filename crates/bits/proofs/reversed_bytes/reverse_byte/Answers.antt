-- `bits::reversed_bytes::reverse_byte` meets its contract. Assumes nothing.
use Rattle.std.proofs.Common.{ap, ◌∙◌, List, ℕ, get_or}
use Rattle.bits.specs.Reversed.{reversed, reversed_bytes}
use Rattle.bits.proofs.Listed.{get_or-listed}
use Rattle.bits.proofs.reversed_bytes.reverse_byte.Goals as goal

pub returns : goal.returns
unfolding reversed_bytes
returns c = ap (λ (t : List ℕ). get_or t c.args.n 0) c.requires.1 ∙ get_or-listed 256 (reversed 8) c.args.n c.requires.0
