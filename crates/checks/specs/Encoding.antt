-- How the code's tables write what a kind's description says. Cited by contracts of inner functions alone: no public contract rests on it.
--   byte_limit    the greatest number of a byte
--   Reads r n b c   the rows that a rule asks for are there
--   span_faults   checks 7 and 8 of a load and of a store, those that can fail
--   WordsPassed n words       a record passed checks 6 to 8, in a table of n rows
--   TargetsIn n r             the rows that a record writes are in a table of n rows
--   lock_with, record_with, records_with   checks 6 to 9, and 10 where it is asked for: of a lock, a record, all records
--   head_checks, body_checks   checks 1 to 3 without a stretch; the rows' and the records' checks
--   RowSlices    the four row slices have one length (check 2 passed)
use Rattle.std.specs.Prelude.{Bool, true, false, not, List, [], ◌∷◌, ◌++◌, ℕ, ◌+◌, ◌≤◌, ◌<◌, T, leb, ltb, eqb, ◌≡◌, length}
use Rattle.operations.specs.Faults.{Fault, fault, named_faults, record_faults, lock_fault}
use Rattle.checks.specs.Limits.{row_limit}
use Rattle.bits.specs.Counted.{rising}
use Rattle.checks.specs.Check.{Check, placed, Passed}
use Rattle.checks.specs.Table.{Table, record_count, record_of}
use Rattle.checks.specs.Checks.{row_shape_faults, word_faults, row_checks}
use Rattle.operations.specs.Kind.{Rule, same_width, same_widths, taken_width, joined_widths, extended_width, compared_widths, chosen_widths, cell_widths, is_row}
use Rattle.operations.specs.Kinds.{kind_of}
use Rattle.operations.specs.declared.Record.{Record}

abbrev pub byte_limit : ℕ
byte_limit = 255

-- the words that name rows whose widths the rule asks for name rows of the table, which has n rows
abbrev pub Reads : Rule → ℕ → ℕ → ℕ → Type 0
Reads same_width n b c = Unit
Reads same_widths n b c = b < n
Reads taken_width n b c = Unit
Reads joined_widths n b c = b < n
Reads extended_width n b c = Unit
Reads compared_widths n b c = b < n
Reads chosen_widths n b c = (b < n) × (c < n)
Reads cell_widths n b c = Unit

-- x, y: the two rows named beside the span; z: the word that is unused
abbrev pub span_faults : ℕ → ℕ → ℕ → ℕ → ℕ → ℕ → List Fault
span_faults n x y base count z =
    fault (leb n x) 7
    ∷ fault (leb n y) 7
    ∷ fault (leb n base) 7
    ∷ fault (ltb n (base + count)) 7
    ∷ fault (not (eqb z 0)) 8
    ∷ fault (eqb count 0) 8
    ∷ []

-- the four row slices have one length
pub record RowSlices (widths locks masks values : List ℕ) : Type 0 where
  pub locks_length : length locks ≡ length widths
  pub masks_length : length masks ≡ length widths
  pub values_length : length values ≡ length widths

-- a record passed checks 6 to 8, in a table of n rows, at most row_limit
pub record WordsPassed (n : ℕ) (words : List ℕ) : Type 0 where
  pub few : n ≤ row_limit
  pub passed : Passed (placed 0 (named_faults n words))

-- the rows that a record writes are rows of a table of n rows: its row t, or its cells
pub record TargetsIn (n : ℕ) (r : Record) : Type 0 where
  pub row_in : T (is_row (kind_of r.kind).use_t) → r.t < n
  pub cells_in : T (not (is_row (kind_of r.kind).use_t)) → r.c + r.p ≤ n

-- check 10, where it is asked for
abbrev pub lock_with : Bool → List ℕ → List ℕ → ℕ → List Check
lock_with true locks words i = placed i (lock_fault locks words)
lock_with false locks words i = []

abbrev pub record_with : Bool → Table → ℕ → List Check
record_with b t i = placed i (record_faults t.widths (record_of t i)) ++ lock_with b t.locks (record_of t i) i

abbrev pub records_with : Bool → Table → List Check
records_with b t = rising (record_with b t) 0 (record_count t)

-- checks 1 to 3 without a stretch; then the rows and the records
abbrev pub head_checks : Table → List Check
head_checks t = placed 0 (row_shape_faults t) ++ placed 0 (word_faults t)

abbrev pub body_checks : Bool → Table → List Check
body_checks b t = row_checks t ++ records_with b t
