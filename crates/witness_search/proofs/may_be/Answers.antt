-- `witness_search::may_be` meets its contract, case by case. Assumes nothing.
use mathlib.Core.Path.{sym, ap}
use Rattle.vectors.specs.declared.OutputBit.{OutputBit}
use Rattle.witness_search.specs.Search.{may_be}
use Rattle.witness_search.proofs.may_be.Goals as goal

pub returns-in-Zero : goal.returns-in-Zero
returns-in-Zero c = ap (λ (b : OutputBit). may_be b c.args.d) (sym c.in-Zero.is)

pub returns-in-One : goal.returns-in-One
returns-in-One c = ap (λ (b : OutputBit). may_be b c.args.d) (sym c.in-One.is)

pub returns-in-Unknown : goal.returns-in-Unknown
returns-in-Unknown c = ap (λ (b : OutputBit). may_be b c.args.d) (sym c.in-Unknown.is)
