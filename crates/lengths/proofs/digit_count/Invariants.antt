-- `lengths::digit_count`: the digits counted, and those of the leading part that is left, are one more than all. Assumes nothing.
use mathlib.Core.Path.{◌≡◌}
use Prim.Native.Nat.{◌≤◌, ◌+◌}
use lib.ListN.{length}
use Rattle.grammar.specs.Print.{decimal}
use Rattle.lengths.proofs.digit_count.Given as goal

abbrev pub invariant-loop-leading : goal.invariant-loop-leading
invariant-loop-leading l = (l.count + length (decimal l.leading) ≡ 1 + length (decimal l.n)) × (l.count + l.leading ≤ 1 + l.n)

abbrev pub decreases-loop-leading : goal.decreases-loop-leading
decreases-loop-leading l = l.leading
