-- `printing::put::put_number`: the leading digits that are left, put from `at` on, make up the whole. Assumes nothing.
use mathlib.Core.Path.{◌≡◌}
use Prim.Native.Nat.{◌≤◌, ◌+◌}
use lib.ListN.{length}
use lib.Seq.{sets}
use Rattle.grammar.specs.Print.{decimal}
use Rattle.printing.proofs.put.put_number.Given as goal

abbrev pub invariant-loop-leading : goal.invariant-loop-leading
invariant-loop-leading l = (l.to ≤ l.end) × (l.to ≡ l.at + length (decimal l.leading)) × (length l.out ≡ length l.initial.out) × (sets l.out l.at (decimal l.leading) ≡ sets l.initial.out l.at (decimal l.n))

abbrev pub decreases-loop-leading : goal.decreases-loop-leading
decreases-loop-leading l = l.leading
