-- `lines::words::kind_among`: what the kinds from k on say of the name is what all of them say. Assumes nothing.
use mathlib.Core.Path.{◌≡◌}
use Prim.Native.Nat.{◌≤◌}
use lib.ListN.{take, drop}
use Rattle.operations.specs.Kinds.{kinds}
use Rattle.lines.proofs.KindNames.{named}
use Rattle.lines.proofs.words.kind_among.Given as goal

abbrev pub invariant-loop-k : goal.invariant-loop-k
invariant-loop-k l = (l.k ≤ l.n) × (named l.f (drop l.k (take l.n kinds)) ≡ named l.f (take l.n kinds))
