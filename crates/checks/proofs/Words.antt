-- The words of a record. Assumes nothing.
use mathlib.Core.Path.{◌≡◌}
use Prim.Native.Nat.{ℕ, ◌*◌, ◌<◌}
use native.Mathlib.Omega.{arith}
use lib.ListN.{length, drop, length-drop}
use lib.Seq.{length-take-le}
use Rattle.operations.specs.Limits.{record_words}
use Rattle.checks.specs.Table.{Table, record_count, record_of}

pub record-length : (t : Table) (i : ℕ) → i < record_count t → length (record_of t i) ≡ record_words
record-length t i h = length-take-le record_words (drop (record_words * i) t.words) (omega (arith, length-drop (record_words * i) t.words))
