-- The invariant of `needs::mark_span`: what is yet to be marked makes up the whole.
use mathlib.Core.Path.{◌≡◌}
use Prim.Native.Nat.{◌≤◌}
use lib.ListN.{length}
use Rattle.operations.specs.Memory.{span}
use Rattle.needs.specs.Encoding.{with_mark, ZeroOrOne}
use Rattle.needs.proofs.Marks.{rest}
use Rattle.needs.proofs.mark_span.Given as goal

abbrev pub invariant-loop-i : goal.invariant-loop-i
invariant-loop-i l = (l.i ≤ l.n) × (length l.need ≡ length l.initial.need) × ZeroOrOne l.need × (with_mark 1 (span l.base l.n) l.initial.need ≡ rest l.base l.n l.i l.need)
