-- `printing::put::put_word`: what is left of the word, put at the place reached, makes up the whole. Assumes nothing.
use Prim.Native.Nat.{◌≤◌}
use lib.ListN.{length, drop}
use Rattle.printing.proofs.Puts.{Writing}
use Rattle.printing.proofs.put.put_word.Given as goal

abbrev pub invariant-loop-i : goal.invariant-loop-i
invariant-loop-i l = (l.i ≤ length l.w) × Writing l.initial.out l.at l.w l.out l.to (drop l.i l.w)
