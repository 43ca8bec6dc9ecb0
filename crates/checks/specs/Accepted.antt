-- What an accepted table gives, field by field (01, "Who can cause a refusal": none of the conditions holds).
--   RowPassed t i               row i passed checks 4 and 5
--   RecordPassed widths words   a record passed checks 6 to 9
--   TablePassed t               the table passed what size refuses;   Accepted t first last   what run refuses
use Rattle.std.specs.Prelude.{◌≡◌, ◌≢◌, not, List, ℕ, ◌%◌, ◌≤◌, ◌<◌, T, length, get_or}
use Rattle.vectors.specs.Lists.{All}
use Rattle.vectors.specs.Row.{WellFormed}
use Rattle.operations.specs.Limits.{record_words}
use Rattle.operations.specs.Kinds.{is_kind}
use Rattle.operations.specs.Record.{kind_word, target_word, first_word, second_word, parameter_word, sixth_word, kind_in, width_at, rows_named, target_rows}
use Rattle.operations.specs.Faults.{misused, widths_fit}
use Rattle.bits.specs.Limits.{width_limit}
use Rattle.checks.specs.Limits.{row_limit, record_limit}
use Rattle.checks.specs.Table.{row_at, Table, start_of, record_count, record_of}

pub record RowPassed (t : Table) (i : ℕ) : Type 0 where
  pub width_least : 1 ≤ width_at t.widths i
  pub width_most : width_at t.widths i ≤ width_limit
  pub lock_most : get_or t.locks i 0 ≤ 1
  pub formed : WellFormed (row_at t.widths (start_of t) i)

pub record RecordPassed (widths words : List ℕ) : Type 0 where
  pub kind_known : T (is_kind (kind_word words))
  pub targets_in : All (λ i. i < length widths) (target_rows words)
  pub operands_in : All (λ i. i < length widths) (rows_named words)
  pub target_used : T (not (misused (kind_in words).use_t (target_word words)))
  pub first_used : T (not (misused (kind_in words).use_a (first_word words)))
  pub second_used : T (not (misused (kind_in words).use_b (second_word words)))
  pub parameter_used : T (not (misused (kind_in words).use_p (parameter_word words)))
  pub sixth_used : T (not (misused (kind_in words).use_c (sixth_word words)))
  pub widths_are_fit : T (widths_fit widths words)

pub record TablePassed (t : Table) : Type 0 where
  pub rows_least : 1 ≤ length t.widths
  pub rows_most : length t.widths ≤ row_limit
  pub locks_length : length t.locks ≡ length t.widths
  pub masks_length : length t.masks ≡ length t.widths
  pub values_length : length t.values ≡ length t.widths
  pub words_whole : length t.words % record_words ≡ 0
  pub records_most : record_count t ≤ record_limit
  pub row_passed : (i : ℕ) → i < length t.widths → RowPassed t i
  pub record_passed : (i : ℕ) → i < record_count t → RecordPassed t.widths (record_of t i)

pub record Accepted (t : Table) (first last : ℕ) : Type 0 where
  pub table : TablePassed t
  pub ordered : first ≤ last
  pub within : last ≤ record_count t
  pub open_targets : (i : ℕ) → i < record_count t → All (λ j. get_or t.locks j 0 ≢ 1) (target_rows (record_of t i))
