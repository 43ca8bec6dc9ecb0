-- `lines::words::is_name`: the bytes passed are equal. Assumes nothing.
use mathlib.Core.Path.{◌≡◌}
use Prim.Native.Nat.{ℕ, ◌≤◌, ◌<◌}
use lib.ListN.{length, get_or}
use Rattle.operations.specs.Kinds.{kind_of}
use Rattle.lines.proofs.words.is_name.Given as goal

abbrev pub invariant-loop-i : goal.invariant-loop-i
invariant-loop-i l = (l.len ≡ length l.f) × (length (kind_of l.k).name ≡ length l.f) × (l.i ≤ l.len) × ((j : ℕ) → j < l.i → get_or l.f j 0 ≡ get_or (kind_of l.k).name j 0)
