-- `store` meets its contract. The invariant: the cells before i are as the store leaves them, the others as before the record. Assumes nothing.
use Prim.Native.Nat.{◌≤◌}
use Rattle.steps.specs.States.{held}
use Rattle.memories.proofs.StoreTurns.{Storing}
use Rattle.memories.proofs.store.Given as goal

abbrev pub invariant-loop-i : goal.invariant-loop-i
invariant-loop-i l = (l.i ≤ l.end) × Storing l.width (held l.initial.mask l.initial.value) l.a l.d l.base l.n l.i (held l.mask l.value)
