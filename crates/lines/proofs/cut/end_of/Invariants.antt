-- `lines::cut::end_of`: at each turn i, and what is left to pass from i, make up the answer. Assumes nothing.
use mathlib.Core.Path.{◌≡◌}
use Prim.Native.Nat.{◌≤◌, ◌+◌}
use lib.ListN.{length, drop}
use Rattle.grammar.specs.Cut.{before}
use Rattle.lines.proofs.cut.end_of.Given as goal

abbrev pub invariant-loop-i : goal.invariant-loop-i
invariant-loop-i l = (l.i ≤ length l.text) × (l.i + before l.sep (drop l.i l.text) ≡ l.from + before l.sep (drop l.from l.text))
