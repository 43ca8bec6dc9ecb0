-- The rows of a table as a whole (01, "Vectors and rows" and "Points and plain runs").
--   StateFits widths s         one mask and one value a row, and well-formed vectors
--   CoversState widths s ns    one number a row, each covered by its row
--   InsideState widths s t     each row of s inside the same row of t
--   held                       the rows that two slices of masks and values hold
use Rattle.std.specs.Prelude.{◌≡◌, List, ℕ, ◌<◌, length, get_or}
use Rattle.vectors.specs.Row.{WellFormed, Covers, Inside}
use Rattle.checks.specs.Table.{State, row_at}

pub record StateFits (widths : List ℕ) (s : State) : Type 0 where
  pub masks_length : length s.masks ≡ length widths
  pub values_length : length s.values ≡ length widths
  pub formed : (i : ℕ) → i < length widths → WellFormed (row_at widths s i)

pub record CoversState (widths : List ℕ) (s : State) (ns : List ℕ) : Type 0 where
  pub count : length ns ≡ length widths
  pub covers : (i : ℕ) → i < length widths → Covers (row_at widths s i) (get_or ns i 0)

abbrev pub InsideState : List ℕ → State → State → Type 0
InsideState widths s t = (i : ℕ) → i < length widths → Inside (row_at widths s i) (row_at widths t i)

abbrev pub held : List ℕ → List ℕ → State
held masks values = record { masks = masks; values = values }
