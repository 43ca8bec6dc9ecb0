-- What run and count answer and leave (01, "Calls").
--   program_of t         the table's widths and records, as effects
--   effects_at t i       the effects of record i
--   Ran                 an answer, and the rows left
--   run_of t first last  run of the stretch of records from first up to but not including last (01's term)
--   point_rows, plain_run the rows, and a plain run's numbers, at point s
--   full_run t s         the rows that a full run (02's term: a run of all records) leaves, started from the rows s
--   count_of t i         the unknown bits u of row i, and 2^u
use Rattle.std.specs.Prelude.{List, ℕ, ◌-◌, ◌^◌}
use Rattle.vectors.specs.Row.{unknowns}
use Rattle.operations.specs.Record.{Effect, effects_of}
use Rattle.checks.specs.Check.{Answer, Leaves, leaving, verdict}
use Rattle.checks.specs.Table.{State, row_at, Table, start_of, with_rows, record_count, record_of}
use Rattle.checks.specs.Checks.{run_checks, count_checks}
use Rattle.steps.specs.Step.{Program, after, plain_after}
use Rattle.tables.specs.declared.Counted.{Counted}

abbrev pub effects_at : Table → ℕ → List Effect
effects_at t i = effects_of t.widths (record_of t i)

abbrev pub program_of : Table → Program
program_of t = record { widths = t.widths; effects = effects_at t; count = record_count t }

abbrev pub Ran : Type 0
Ran = Leaves State

-- "The whole table is checked first." "Its records act one after another"; the answer is last.
unfoldable pub run_of : Table → ℕ → ℕ → Ran
run_of t first last = leaving (verdict (run_checks t first last) last) (start_of t) (after (program_of t) first (last - first) (start_of t))

-- "Point s of an accepted run, first ≤ s ≤ last, stands after the stretch's records before s. Its rows are those that run from first up to s leaves."
abbrev pub point_rows : Table → ℕ → ℕ → State
point_rows t first s = (run_of t first s).left

-- "after a full run" (02, request 9)
abbrev pub full_run : Table → State → State
full_run t s = point_rows (with_rows t s) 0 (record_count t)

-- "A plain run is fed the widths, the stretch's records and one start number a row."
abbrev pub plain_run : Table → ℕ → ℕ → List ℕ → List ℕ
plain_run t first s ns = plain_after (program_of t) first (s - first) ns

unfoldable pub count_of : Table → ℕ → Answer Counted
count_of t i =
    verdict (count_checks t i)
    (record { unknown = unknowns (row_at t.widths (start_of t) i); choices = 2 ^ unknowns (row_at t.widths (start_of t) i) })
