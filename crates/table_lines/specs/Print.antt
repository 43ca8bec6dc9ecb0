-- What the writing and the counting of a table's lines need.
--   RowsFit ws ls ms vs   the rows can be printed: one lock, mask and value a row, and no width over the limit
--   RecordsFit words      the records can be printed: whole records, and known kinds
use Rattle.std.specs.Prelude.{◌≡◌, List, [], ℕ, ◌*◌, ◌≤◌, ◌<◌, T, length, get_or}
use Rattle.operations.specs.Limits.{record_words}
use Rattle.operations.specs.Kinds.{is_kind}
use Rattle.operations.specs.Record.{kind_word}
use Rattle.bits.specs.Limits.{width_limit}
use Rattle.checks.specs.Table.{record_count, record_of}
use Rattle.checks.specs.Model.{lent}

pub record RowsFit (ws ls ms vs : List ℕ) : Type 0 where
  pub locks_length : length ls ≡ length ws
  pub masks_length : length ms ≡ length ws
  pub values_length : length vs ≡ length ws
  pub narrow : (i : ℕ) → i < length ws → get_or ws i 0 ≤ width_limit

pub record RecordsFit (words : List ℕ) : Type 0 where
  pub whole : length words ≡ record_words * record_count (lent [] [] [] [] words)
  pub known : (i : ℕ) → i < record_count (lent [] [] [] [] words) → T (is_kind (kind_word (record_of (lent [] [] [] [] words) i)))
