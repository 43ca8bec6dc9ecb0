-- `table_lines::length::records_length`: the bytes counted, and those of the record lines still to come, make up the whole. Assumes nothing.
use mathlib.Core.Path.{◌≡◌}
use mathlib.Core.List.{[]}
use Prim.Native.Nat.{◌≤◌, ◌+◌, ◌/◌}
use lib.ListN.{length}
use Rattle.operations.specs.Limits.{record_words}
use Rattle.checks.specs.Model.{lent}
use Rattle.grammar.specs.Print.{lines_text, record_lines}
use Rattle.table_lines.proofs.PrintLines.{records_from}
use Rattle.table_lines.proofs.length.records_length.Given as goal

abbrev pub invariant-loop-i : goal.invariant-loop-i
invariant-loop-i l = (l.n ≡ length l.words / record_words) × (l.i ≤ l.n) × (l.total + length (records_from l.words l.i) ≡ length (lines_text (record_lines (lent [] [] [] [] l.words))))
