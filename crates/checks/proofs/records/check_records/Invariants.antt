-- `checks::records::check_records` meets its contract. The invariant: the verdict on all records is that on the records from i on. Assumes nothing.
use mathlib.Core.Path.{◌≡◌}
use Prim.Native.Nat.{◌/◌, ◌≤◌}
use lib.ListN.{length}
use Rattle.operations.specs.Limits.{record_words}
use Rattle.checks.specs.Model.{in_table, judged}
use Rattle.checks.specs.Encoding.{record_with, records_with}
use Rattle.checks.proofs.VerdictParts.{rest}
use Rattle.checks.proofs.records.check_records.Given as goal

abbrev pub invariant-loop-i : goal.invariant-loop-i
invariant-loop-i l = (l.i ≤ length l.t.words.now / record_words)
    × (judged (records_with l.locked (in_table l.t)) ≡ rest (record_with l.locked (in_table l.t)) (length l.t.words.now / record_words) l.i)
