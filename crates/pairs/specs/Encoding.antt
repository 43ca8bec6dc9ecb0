-- What the code of check 20 takes for granted. Cited by contracts of inner functions alone: no public contract rests on it.
--   KnownKinds words                  every record has a kind
--   PairReady widths locks words ss ns   such records, a lock a row, and a next row for each state row
use Rattle.std.specs.Prelude.{◌≡◌, List, [], ℕ, ◌/◌, ◌<◌, T, length}
use Rattle.operations.specs.Limits.{record_words}
use Rattle.operations.specs.Kinds.{is_kind}
use Rattle.operations.specs.Record.{kind_word}
use Rattle.checks.specs.Table.{record_of}
use Rattle.checks.specs.Model.{lent}

abbrev pub KnownKinds : List ℕ → Type 0
KnownKinds words = (k : ℕ) → k < length words / record_words → T (is_kind (kind_word (record_of (lent [] [] [] [] words) k)))

pub record PairReady (widths locks words ss ns : List ℕ) : Type 0 where
  pub locks_length : length locks ≡ length widths
  pub kinds : KnownKinds words
  pub even : length ns ≡ length ss
