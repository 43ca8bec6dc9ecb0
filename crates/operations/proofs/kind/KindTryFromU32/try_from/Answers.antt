-- A number that is none of those named is the number of no kind. Assumes nothing.
use Rattle.std.proofs.Common.{Bool, true, false, refl, arith}
use mathlib.Core.Bool.{not}
use lib.Dec.{T}
use Rattle.operations.specs.Kinds.{kind_count}
use Rattle.operations.proofs.Lookup.{kind-below}
use Rattle.operations.proofs.kind.KindTryFromU32.try_from.Goals as goal

refuted : (b : Bool) → (T b → ⊥) → T (not b)
refuted true f = f tt
refuted false f = tt

pub returns-in_default : goal.returns-in_default
unfolding kind_count
returns-in_default c = (refl, refuted _ (λ t. let h = kind-below c.args.number t in omega arith))
