-- `printing::put::put_letters`: the letters of the lower bits, put at the place reached, make up the whole. Assumes nothing.
use Prim.Native.Nat.{◌≤◌}
use Rattle.grammar.specs.Print.{letters_of}
use Rattle.printing.proofs.Puts.{Writing}
use Rattle.printing.proofs.put.put_letters.Given as goal

abbrev pub invariant-loop-k : goal.invariant-loop-k
invariant-loop-k l = (l.k ≤ l.w) × Writing l.initial.out l.at (letters_of l.w l.m l.v) l.out l.to (letters_of l.k l.m l.v)
