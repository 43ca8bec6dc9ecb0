-- What the code's steps take for granted of a table. Cited by contracts of inner functions alone: no public contract rests on it.
--   used_row      the row that a word names, 0 where it names none
--   StepReady, StretchReady   what an accepted table gives a record's step, and a stretch of them
use Rattle.std.specs.Prelude.{List, ℕ, ◌*◌, ◌/◌, ◌≤◌, ◌<◌, length, take, drop}
use Rattle.operations.specs.Limits.{record_words}
use Rattle.operations.specs.Record.{width_at}
use Rattle.bits.specs.Limits.{width_limit}
use Rattle.checks.specs.Table.{State}
use Rattle.checks.specs.Accepted.{RecordPassed}
use Rattle.steps.specs.States.{StateFits}
use Rattle.operations.specs.Kind.{Use, as_row, as_number, as_count, as_base, unused}

-- the row that a word names, 0 where it names none
abbrev pub used_row : Use → ℕ → ℕ
used_row as_row word = word
used_row as_number word = 0
used_row as_count word = 0
used_row as_base word = 0
used_row unused word = 0

-- what an accepted table gives a record's step: rows 1 to 32 bits wide and well formed, and a record that passed checks 6 to 9
pub record StepReady (widths : List ℕ) (s : State) (words : List ℕ) : Type 0 where
  pub some_row : 1 ≤ length widths
  pub wide : (i : ℕ) → i < length widths → (1 ≤ width_at widths i) × (width_at widths i ≤ width_limit)
  pub fits : StateFits widths s
  pub passed : RecordPassed widths words

-- the same of a stretch of records, given as a part of the words
pub record StretchReady (widths : List ℕ) (s : State) (part : List ℕ) : Type 0 where
  pub some_row : 1 ≤ length widths
  pub wide : (i : ℕ) → i < length widths → (1 ≤ width_at widths i) × (width_at widths i ≤ width_limit)
  pub fits : StateFits widths s
  pub passed : (i : ℕ) → i < length part / record_words → RecordPassed widths (take record_words (drop (record_words * i) part))
