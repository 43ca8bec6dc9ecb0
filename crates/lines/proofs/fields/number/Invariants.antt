-- `lines::fields::number`: the bytes passed are digits, and n is what they stand for. Assumes nothing.
use mathlib.Core.Path.{◌≡◌}
use Prim.Native.Nat.{◌≤◌}
use lib.ListN.{length}
use Rattle.lines.proofs.ReadNumbers.{SoFar}
use Rattle.lines.proofs.fields.number.Given as goal

abbrev pub invariant-loop-i : goal.invariant-loop-i
invariant-loop-i l = (l.len ≡ length l.f) × (l.i ≤ l.len) × SoFar l.f l.i l.n
