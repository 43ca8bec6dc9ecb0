-- Tables (01, "Vectors and rows" and "Records"). Rows and records count from 0.
--   State            the masks and values of all rows
--   row_at widths s i row i: its width, and its mask and value in the state s
--   Table            width, lock, mask and value slices, and the record words
--   start_of t        the rows as lent;   with_rows t s   the table with other rows
--   record_count t    how many records there are;   record_of t i   the words of record i
use Rattle.std.specs.Prelude.{List, ℕ, ◌*◌, ◌/◌, length, get_or, take, drop}
use Rattle.vectors.specs.Row.{Row}
use Rattle.operations.specs.Limits.{record_words}
use Rattle.operations.specs.Record.{width_at}

pub record State : Type 0 where
  pub masks : List ℕ
  pub values : List ℕ

abbrev pub row_at : List ℕ → State → ℕ → Row
row_at widths s i = record { width = width_at widths i; mask = get_or s.masks i 0; value = get_or s.values i 0 }

-- lock: 0 open, 1 locked
pub record Table : Type 0 where
  pub widths : List ℕ
  pub locks : List ℕ
  pub masks : List ℕ
  pub values : List ℕ
  pub words : List ℕ

abbrev pub start_of : Table → State
start_of t = record { masks = t.masks; values = t.values }

abbrev pub with_rows : Table → State → Table
with_rows t s = record { widths = t.widths; locks = t.locks; masks = s.masks; values = s.values; words = t.words }

abbrev pub record_count : Table → ℕ
record_count t = length t.words / record_words

abbrev pub record_of : Table → ℕ → List ℕ
record_of t i = take record_words (drop (record_words * i) t.words)
