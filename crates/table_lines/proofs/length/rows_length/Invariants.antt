-- `table_lines::length::rows_length`: the bytes counted, and those of the row lines still to come, make up the whole. Assumes nothing.
use mathlib.Core.Path.{◌≡◌}
use mathlib.Core.List.{List, []}
use Prim.Native.Nat.{ℕ, ◌≤◌, ◌+◌}
use lib.ListN.{length}
use Rattle.checks.specs.Model.{lent}
use Rattle.grammar.specs.Print.{lines_text, row_lines}
use Rattle.table_lines.proofs.PrintLines.{rows-from}
use Rattle.table_lines.proofs.length.rows_length.Given as goal

abbrev pub invariant-loop-i : goal.invariant-loop-i
invariant-loop-i l = (l.n ≡ length l.width) × (l.i ≤ l.n) × ((ms vs : List ℕ) → l.total + length (rows-from (lent l.width l.lock ms vs []) l.i) ≡ length (lines_text (row_lines (lent l.width l.lock ms vs []))))
