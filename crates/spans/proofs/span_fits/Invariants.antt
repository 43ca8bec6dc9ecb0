-- `spans::span_fits` meets its contract. The invariant: the test of all rows is that of the rows from i on. Assumes nothing.
use mathlib.Core.Path.{◌≡◌}
use mathlib.Core.Bool.{Bool}
use Prim.Native.Nat.{ℕ, ◌-◌, ◌≤◌}
use mathlib.Core.List.{List}
use lib.Dec.{eqb}
use Rattle.vectors.specs.Lists.{all_of}
use Rattle.operations.specs.Memory.{span}
use Rattle.operations.specs.Record.{width_at}
use Rattle.spans.proofs.Turns.{rest}
use Rattle.spans.proofs.span_fits.Given as goal

abbrev test : List ℕ → ℕ → ℕ → Bool
test width w i = eqb w (width_at width i)

abbrev pub invariant-loop-i : goal.invariant-loop-i
invariant-loop-i l = (l.i ≤ l.n) × (all_of (test l.width l.w) (span l.base l.n) ≡ rest (test l.width l.w) l.base l.n l.i)

abbrev pub decreases-loop-i : goal.decreases-loop-i
decreases-loop-i l = l.n - l.i
