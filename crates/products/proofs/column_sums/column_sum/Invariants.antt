-- `column_sum` meets its contract. The loop's invariant: the total is the column sum less that of the bits that are left. Assumes nothing.
use Prim.Native.Nat.{◌+◌, ◌^◌, ◌<◌}
use Rattle.products.proofs.Turns.{Left}
use Rattle.products.proofs.column_sums.column_sum.Given as goal

abbrev pub invariant-loop-rest : goal.invariant-loop-rest
invariant-loop-rest l = (l.rest < 2 ^ (l.k + 1)) × Left l.k l.a l.b l.rest l.total

abbrev pub decreases-loop-rest : goal.decreases-loop-rest
decreases-loop-rest l = l.rest
