-- `letters::is_among`: the letters passed are other ones. Assumes nothing.
use Prim.Native.Nat.{◌≤◌}
use lib.ListN.{length}
use Rattle.letters.proofs.Among.{Left}
use Rattle.letters.proofs.is_among.Given as goal

abbrev pub invariant-loop-i : goal.invariant-loop-i
invariant-loop-i l = (l.i ≤ length l.letters) × Left l.b l.letters l.i
