-- `constants::print_kinds` is safe: the numbers below `KINDS` are those of kinds. Assumes nothing.
use native.Mathlib.Omega.{arith}
use Rattle.operations.specs.Kinds.{kind_count}
use Rattle.operations.proofs.Lookup.{below-kind}
use Rattle.constants.proofs.print_kinds.Goals as goal

pub print_kind-requires : goal.print_kind-requires
unfolding kind_count
print_kind-requires g c = below-kind _ (omega arith)
