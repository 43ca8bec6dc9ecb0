-- `unknown_among` meets its contract. The loop's invariant: the columns in rest are left. Assumes nothing.
use Prim.Native.Nat.{ℕ, ◌^◌, ◌<◌}
use Rattle.columns.specs.Formed.{Formed}
use Rattle.columns.specs.Settled.{product_of}
use Rattle.columns.proofs.Parts.{Part}
use Rattle.products.proofs.Unsettled.{Worked}
use Rattle.products.proofs.unknown_among.Given as goal

abbrev pub invariant-loop-rest : goal.invariant-loop-rest
invariant-loop-rest l = Part l.unsettled l.rest × ((w : ℕ) → Formed w l.ma l.va l.mb l.vb → l.unsettled < 2 ^ w → Worked (product_of w l.ma l.va l.mb l.vb).mask l.unsettled l.found l.rest)

abbrev pub decreases-loop-rest : goal.decreases-loop-rest
decreases-loop-rest l = l.rest
