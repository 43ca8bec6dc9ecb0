-- `steps::copy_rows` meets its contract: row by row, mask and value, of which no bit is taken away. Assumes nothing.
use mathlib.Core.Path.{◌≡◌}
use Prim.Native.Nat.{◌≤◌}
use lib.ListN.{length}
use Rattle.steps.proofs.Copies.{Copied}
use Rattle.steps.proofs.copy_rows.Given as goal

abbrev pub invariant-loop-i : goal.invariant-loop-i
invariant-loop-i l = (length l.value ≡ length l.mask) × (l.i ≤ length l.mask) × Copied l.mask l.tmask l.i × Copied l.value l.tvalue l.i
