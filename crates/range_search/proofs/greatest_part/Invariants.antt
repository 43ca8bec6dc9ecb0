-- `range_search::greatest_part` meets its contract. What is taken so far is at most the bound, and together with what will be taken of the bits below k it is
-- the greatest part. Assumes nothing.
use mathlib.Core.Path.{◌≡◌}
use Prim.Native.Nat.{◌+◌, ◌-◌, ◌≤◌}
use Rattle.range_search.proofs.Parts.{part_below}
use Rattle.range_search.proofs.greatest_part.Given as goal

abbrev pub invariant-loop-k : goal.invariant-loop-k
invariant-loop-k l = (l.k ≤ l.w) × ((l.part ≤ l.bound) × (l.part + part_below l.k l.m (l.bound - l.part) ≡ part_below l.w l.m l.bound))
