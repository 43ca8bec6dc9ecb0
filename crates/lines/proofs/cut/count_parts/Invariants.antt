-- `lines::cut::count_parts`: what is counted and what is left make up the count. Assumes nothing.
use mathlib.Core.Path.{◌≡◌}
use Prim.Native.Nat.{◌≤◌, ◌+◌}
use lib.ListN.{length, drop}
use Rattle.grammar.specs.Cut.{pieces}
use Rattle.lines.proofs.cut.count_parts.Given as goal

abbrev pub invariant-loop-i : goal.invariant-loop-i
invariant-loop-i l = (l.i ≤ length l.text) × (l.n ≤ l.i + 1) × (l.n + length (pieces l.sep (drop l.i l.text)) ≡ length (pieces l.sep l.text) + 1)
