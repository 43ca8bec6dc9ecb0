-- `table_lines::print::put_records`: the record lines still to come, put at the place reached, make up the whole. Assumes nothing.
use mathlib.Core.Path.{◌≡◌}
use mathlib.Core.List.{[]}
use Prim.Native.Nat.{◌≤◌, ◌/◌}
use lib.ListN.{length}
use Rattle.operations.specs.Limits.{record_words}
use Rattle.checks.specs.Model.{lent}
use Rattle.grammar.specs.Print.{lines_text, record_lines}
use Rattle.printing.proofs.Puts.{Writing}
use Rattle.table_lines.proofs.PrintLines.{records_from}
use Rattle.table_lines.proofs.print.put_records.Given as goal

abbrev pub invariant-loop-i : goal.invariant-loop-i
invariant-loop-i l = (l.n ≡ length l.words / record_words) × (l.i ≤ l.n) × Writing l.initial.out l.from (lines_text (record_lines (lent [] [] [] [] l.words))) l.out l.at (records_from l.words l.i)
