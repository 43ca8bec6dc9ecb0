-- `pairs::written` meets its contract. The invariant: no record before k writes the row. Assumes nothing.
use mathlib.Core.Path.{◌≡◌}
use mathlib.Core.Bool.{Bool, false}
use mathlib.Core.List.{List, []}
use Prim.Native.Nat.{ℕ, ◌/◌, ◌≤◌, ◌<◌}
use lib.Dec.{eqb}
use lib.ListN.{length}
use Rattle.vectors.specs.Lists.{some_of}
use Rattle.operations.specs.Limits.{record_words}
use Rattle.operations.specs.Record.{target_rows}
use Rattle.checks.specs.Table.{record_of}
use Rattle.checks.specs.Model.{lent}
use Rattle.pairs.proofs.written.Given as goal

abbrev test : List ℕ → ℕ → ℕ → Bool
test words i k = some_of (λ j. eqb j i) (target_rows (record_of (lent [] [] [] [] words) k))

abbrev pub invariant-loop-k : goal.invariant-loop-k
invariant-loop-k l = (l.k ≤ length l.words / record_words) × ((j : ℕ) → j < l.k → test l.words l.i j ≡ false)
