-- `spans::span_marked` meets its contract. The invariant: whether no row is marked is told by the rows from i on. Assumes nothing.
use mathlib.Core.Path.{◌≡◌}
use mathlib.Core.Bool.{Bool, not}
use mathlib.Core.List.{List}
use Prim.Native.Nat.{ℕ, ◌-◌, ◌≤◌}
use lib.Dec.{eqb}
use lib.ListN.{get_or}
use Rattle.vectors.specs.Lists.{all_of}
use Rattle.operations.specs.Memory.{span}
use Rattle.spans.proofs.Turns.{rest}
use Rattle.spans.proofs.span_marked.Given as goal

abbrev marked : List ℕ → ℕ → Bool
marked marks i = eqb (get_or marks i 0) 1

abbrev is_free : List ℕ → ℕ → Bool
is_free marks i = not (marked marks i)

abbrev pub invariant-loop-i : goal.invariant-loop-i
invariant-loop-i l = (l.i ≤ l.n) × (all_of (is_free l.marks) (span l.base l.n) ≡ rest (is_free l.marks) l.base l.n l.i)

abbrev pub decreases-loop-i : goal.decreases-loop-i
decreases-loop-i l = l.n - l.i
