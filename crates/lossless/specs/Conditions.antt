-- When a table loses nothing (02, request 10): the conditions on the records of a stretch, and on one last record after it, of which "every row of a span
-- counts as named and read once, and for a store as written too" (02, request 11): the rows named, and the rows written, have the span in them.
--   lossless_kinds               the kinds of the request's list
--   writes t i                  the rows that record i writes
--   rows_read t first last       the operand rows of the stretch's records, record after record and word after word: a row named twice stands there twice
--   rows_written t first last    the rows that they write, record after record
--   ListedKinds, OperandsOnce, TargetsOnce, ReadsUnwritten   the conditions on the stretch;   LosesNothing   all of them
--   NamedOnce, Unread, Unwritten   the conditions on record n, after the stretch from first up to n;   LastRecord   all of them
--   Fitting t                   a table of any size: well-formed rows, and records that passed checks 6 to 9
use mathlib.Core.List.{List, [], ◌∷◌, Memᴰ}
use Rattle.std.specs.Prelude.{ℕ, ◌-◌, ◌≤◌, ◌<◌}
use Rattle.bits.specs.Counted.{rising}
use Rattle.vectors.specs.Lists.{All, Missing, Distinct}
use Rattle.operations.specs.Kind.{Kind}
use Rattle.operations.specs.Bitwise.{op_copy, op_not, op_and, op_or, op_xor}
use Rattle.operations.specs.Moves.{op_shl, op_lshr, op_rotl, op_extract, op_concat, op_zext}
use Rattle.operations.specs.Record.{kind_in, rows_named, target_rows}
use Rattle.checks.specs.Table.{Table, start_of, record_count, record_of}
use Rattle.checks.specs.Accepted.{RecordPassed}
use Rattle.steps.specs.States.{StateFits}

-- "Some designs use only copy, not, and, or, xor, shl, lshr, rotl, extract, concat and zext."
unfoldable pub lossless_kinds : List Kind
lossless_kinds = op_copy ∷ op_not ∷ op_and ∷ op_or ∷ op_xor ∷ op_shl ∷ op_lshr ∷ op_rotl ∷ op_extract ∷ op_concat ∷ op_zext ∷ []

abbrev pub writes : Table → ℕ → List ℕ
writes t i = target_rows (record_of t i)

abbrev pub rows_read : Table → ℕ → ℕ → List ℕ
rows_read t first last = rising (λ i. rows_named (record_of t i)) first (last - first)

abbrev pub rows_written : Table → ℕ → ℕ → List ℕ
rows_written t first last = rising (writes t) first (last - first)

-- ---- the stretch

-- "use only copy, not, .."
abbrev pub ListedKinds : Table → ℕ → ℕ → Type 0
ListedKinds t first last = (i : ℕ) → first ≤ i → i < last → Memᴰ (kind_in (record_of t i)) lossless_kinds

-- "every row is an operand at most once": of one record too, so that a row that it names twice counts twice
abbrev pub OperandsOnce : Table → ℕ → ℕ → Type 0
OperandsOnce t first last = Distinct (rows_read t first last)

-- "and a target at most once"
abbrev pub TargetsOnce : Table → ℕ → ℕ → Type 0
TargetsOnce t first last = Distinct (rows_written t first last)

-- "no record reads a row that it or a later record writes"
abbrev pub ReadsUnwritten : Table → ℕ → ℕ → Type 0
ReadsUnwritten t first last = (i : ℕ) → first ≤ i → i < last → All (λ o. Missing o (rows_written t i last)) (rows_named (record_of t i))

pub record LosesNothing (t : Table) (first last : ℕ) : Type 0 where
  pub kinds : ListedKinds t first last
  pub operands_once : OperandsOnce t first last
  pub targets_once : TargetsOnce t first last
  pub reads_unwritten : ReadsUnwritten t first last

-- ---- one last record

-- "naming each only once"
abbrev pub NamedOnce : Table → ℕ → Type 0
NamedOnce t n = Distinct (rows_named (record_of t n))

-- "reads rows that nothing has read"
abbrev pub Unread : Table → ℕ → ℕ → Type 0
Unread t first n = All (λ o. Missing o (rows_read t first n)) (rows_named (record_of t n))

-- "and writes a row not yet written"
abbrev pub Unwritten : Table → ℕ → ℕ → Type 0
Unwritten t first n = All (λ o. Missing o (rows_written t first n)) (writes t n)

pub record LastRecord (t : Table) (first n : ℕ) : Type 0 where
  pub named_once : NamedOnce t n
  pub unread : Unread t first n
  pub unwritten : Unwritten t first n

-- ---- "tables of every length": neither 256 rows nor 1,024 records nor 32 bits bound them

pub record Fitting (t : Table) : Type 0 where
  pub rows : StateFits t.widths (start_of t)
  pub records : (i : ℕ) → i < record_count t → RecordPassed t.widths (record_of t i)
