-- `printing::records::put_name`: what is left of the name, put at the place reached, makes up the whole. Assumes nothing.
use mathlib.Core.Path.{◌≡◌}
use Prim.Native.Nat.{◌≤◌}
use lib.ListN.{length, drop}
use Rattle.operations.specs.Kinds.{kind_of}
use Rattle.printing.proofs.Puts.{Writing}
use Rattle.printing.proofs.records.put_name.Given as goal

abbrev pub invariant-loop-i : goal.invariant-loop-i
invariant-loop-i l = (l.len ≡ length (kind_of l.k).name) × (l.i ≤ l.len) × Writing l.initial.out l.at (kind_of l.k).name l.out l.to (drop l.i (kind_of l.k).name)
