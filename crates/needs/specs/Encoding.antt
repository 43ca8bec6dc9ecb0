-- How the code holds the needed rows, a byte a row, and what it takes for granted. Cited by contracts of inner functions alone: no public contract rests on it.
--   rows_told u               how many rows a word stands for, that names no cells
--   with_mark m rows need      the bytes with m at each of the rows
--   needs_before words need    the rows needed before a record that stays, as bytes
--   ZeroOrOne need            every byte is 0 or 1
--   SpanIn n base count       the rows of a span are below n
--   RowsIn n r                a record of a known kind whose rows are below n
--   RecordsIn n words         the words of such records
--   RoomForMarks marks need   a byte for each mark, and all bytes 0
use Rattle.std.specs.Prelude.{◌≡◌, List, [], ℕ, ◌/◌, ◌%◌, ◌≤◌, ◌<◌, T, length, get_or}
use Rattle.vectors.specs.Lists.{All}
use Rattle.operations.specs.Limits.{record_words}
use Rattle.operations.specs.Kinds.{is_kind}
use Rattle.operations.specs.Memory.{span}
use Rattle.operations.specs.declared.Record.{Record}
use Rattle.operations.specs.declared.descriptions.WordUse.{WordUse}
use Rattle.operations.specs.declared.descriptions.WordUse.TheVariants.{Nothing, Row, Number, Cells}
use Rattle.operations.specs.Record.{words_of, rows_named}
use Rattle.checks.specs.Table.{record_of}
use Rattle.checks.specs.Model.{lent}
use Rattle.checks.specs.Encoding.{TargetsIn}
use Rattle.steps.specs.Step.{set_all}
use Rattle.needs.specs.Needs.{ceasing, becoming}

abbrev pub rows_told : WordUse → ℕ
rows_told Nothing = 0
rows_told Row = 1
rows_told Number = 0
rows_told Cells = 0

abbrev pub with_mark : ℕ → List ℕ → List ℕ → List ℕ
with_mark m rows need = set_all (λ i. i) (λ i. m) rows need

unfoldable pub needs_before : List ℕ → List ℕ → List ℕ
needs_before words need = with_mark 1 (becoming words) (with_mark 0 (ceasing words) need)

pub record ZeroOrOne (need : List ℕ) : Type 0 where
  pub most : (i : ℕ) → get_or need i 0 ≤ 1

pub record SpanIn (n base count : ℕ) : Type 0 where
  pub rows_in : All (λ i. i < n) (span base count)

pub record RowsIn (n : ℕ) (r : Record) : Type 0 where
  pub known : T (is_kind r.kind)
  pub targets_in : TargetsIn n r
  pub operands_in : All (λ i. i < n) (rows_named (words_of r))

pub record RecordsIn (n : ℕ) (words : List ℕ) : Type 0 where
  pub whole : length words % record_words ≡ 0
  pub rows_in : (i : ℕ) → i < length words / record_words → (r : Record) → words_of r ≡ record_of (lent [] [] [] [] words) i → RowsIn n r

pub record RoomForMarks (marks need : List ℕ) : Type 0 where
  pub room : length marks ≤ length need
  pub empty : (i : ℕ) → get_or need i 0 ≡ 0
