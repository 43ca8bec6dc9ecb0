-- `letters::vector`: the bytes passed are letters, and m and v are the mask and value that they stand for. Assumes nothing.
use mathlib.Core.Path.{◌≡◌}
use Prim.Native.Nat.{◌≤◌}
use lib.ListN.{length}
use Rattle.letters.specs.Model.{edition_model}
use Rattle.letters.proofs.ReadVectors.{SoFar}
use Rattle.letters.proofs.vector.Given as goal

abbrev pub invariant-loop-i : goal.invariant-loop-i
invariant-loop-i l = (l.len ≡ length l.f) × (l.i ≤ l.len) × SoFar (edition_model l.e).letters l.f l.i l.m l.v
