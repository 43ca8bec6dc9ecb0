-- `witness_search::witness` meets its contract. What is sought stays sought of the operands at hand, whose choices are choices of the first ones; a turn
-- makes the sum of their masks less. Assumes nothing.
use mathlib.Core.List.{List}
use Prim.Native.Nat.{ℕ, ◌+◌}
use Rattle.vectors.specs.Choice.{Chosen}
use Rattle.witness_search.specs.Witness.{number_of}
use Rattle.witness_search.specs.Search.{rows_of, Sought}
use Rattle.witness_search.proofs.witness.Given as goal

abbrev pub invariant-loop-at : goal.invariant-loop-at
invariant-loop-at l = Sought (number_of l.kind) l.w l.k l.d l.at × ((ns : List ℕ) → Chosen (rows_of l.w l.at) ns → Chosen (rows_of l.w l.initial.at) ns)

abbrev pub decreases-loop-at : goal.decreases-loop-at
decreases-loop-at l = l.at.a.mask + l.at.b.mask
