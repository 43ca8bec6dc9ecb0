-- `lines::cut::start_of`: at each turn what is passed, and what is left to pass, make up the start of the part. Assumes nothing.
use mathlib.Core.Path.{◌≡◌}
use Prim.Native.Nat.{◌≤◌, ◌-◌, ◌+◌}
use lib.ListN.{length, drop}
use Rattle.grammar.specs.Cut.{past}
use Rattle.lines.proofs.cut.start_of.Given as goal

abbrev pub invariant-loop : goal.invariant-loop
invariant-loop l = (l.at ≤ length l.text) × (l.len ≡ length l.text) × (l.at + past l.sep (l.n - l.counter) (drop l.at l.text) ≡ past l.sep (l.n - 1) l.text)
