-- `orders::rows::inside_states` meets its contract. The invariant: every row before i lies inside. Assumes nothing.
use mathlib.Core.Path.{◌≡◌}
use mathlib.Core.Bool.{Bool, true}
use mathlib.Core.List.{List}
use Prim.Native.Nat.{ℕ, ◌≤◌, ◌<◌}
use lib.ListN.{length}
use Rattle.checks.specs.Table.{row_at}
use Rattle.steps.specs.States.{held}
use Rattle.orders.specs.Order.{inside_row}
use Rattle.orders.proofs.rows.inside_states.Given as goal

abbrev test : List ℕ → List ℕ → List ℕ → List ℕ → List ℕ → ℕ → Bool
test width ma va mb vb i = inside_row (row_at width (held ma va) i) (row_at width (held mb vb) i)

abbrev pub invariant-loop-i : goal.invariant-loop-i
invariant-loop-i l = (length l.ma ≡ length l.width) × (length l.va ≡ length l.width) × (length l.mb ≡ length l.width) × (length l.vb ≡ length l.width) × (l.i ≤ length l.width)
    × ((j : ℕ) → j < l.i → test l.width l.ma l.va l.mb l.vb j ≡ true)
