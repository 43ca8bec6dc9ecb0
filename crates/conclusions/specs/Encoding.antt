-- What the code of a trial takes for granted. Cited by contracts of inner functions alone: no public contract rests on it.
--   InTable widths i k   bit k of row i is a bit of the table
--   Named t i k          the checks of the table, of the row named and of the bit named passed, and what that means
use Rattle.std.specs.Prelude.{List, ℕ, ◌<◌, length}
use Rattle.operations.specs.Record.{width_at}
use Rattle.checks.specs.Check.{Passed}
use Rattle.checks.specs.Table.{Table, record_count}
use Rattle.checks.specs.Accepted.{Accepted}
use Rattle.conclusions.specs.Reset.{naming_checks}

pub record InTable (widths : List ℕ) (i k : ℕ) : Type 0 where
  pub row_in : i < length widths
  pub at_in : k < width_at widths i

pub record Named (t : Table) (i k : ℕ) : Type 0 where
  pub passed : Passed (naming_checks t i k)
  pub accepted : Accepted t 0 (record_count t)
  pub in_table : InTable t.widths i k
