-- `table_lines::print::put_rows`: the row lines still to come, put at the place reached, make up the whole. Assumes nothing.
use mathlib.Core.Path.{◌≡◌}
use Prim.Native.Nat.{◌≤◌}
use lib.ListN.{length}
use Rattle.checks.specs.Model.{in_table}
use Rattle.grammar.specs.Print.{lines_text, row_lines}
use Rattle.printing.proofs.Puts.{Writing}
use Rattle.table_lines.proofs.PrintLines.{rows-from}
use Rattle.table_lines.proofs.print.put_rows.Given as goal

abbrev pub invariant-loop-i : goal.invariant-loop-i
invariant-loop-i l = (l.n ≡ length l.t.width.now) × (l.i ≤ l.n) × Writing l.initial.out l.from (lines_text (row_lines (in_table l.t))) l.out l.at (rows-from (in_table l.t) l.i)
