-- `pairs::check_pairs` meets its contract: what it returns is told by the lemmas that the function names. Assumes nothing.
use native.Mathlib.Omega.{arith}
use Rattle.pairs.proofs.check_pairs.Goals as goal

pub check_each_pair-requires : goal.check_each_pair-requires
check_each_pair-requires c = record { locks_length = c.requires.0; kinds = c.requires.1; even = omega arith }
