-- The checks of the calls on a table (01, "Who can cause a refusal"), and of a bit number (02, request 6), each condition by name, each call's list in 01's order:
-- "1, 2, 3; rows rising, 4 before 5; records rising, 6 to 10 in number order". Checks of a record: crate operations, Record.
--   no_rows, too_many_rows        the conditions of 1;   locks_differ, masks_differ, values_differ   of 2
--   words_left_over, too_many_records, first_after_last, last_past_end   of 3
--   width_zero, width_over, lock_over   of 4;            plane_over, planes_meet   of 5
--   row_outside t i             of 7 of a row that a call names;   bit_outside w k   of 15 (02, request 6)
--   row_shape_faults t           1 and 2;      word_faults t      3 without a stretch;   stretch_faults t first last   3 for a stretch
--   row_faults w l m v          4 and 5 of a row;  row_faults_at t i   of row i;   row_checks t   of all rows
--   width_faults w, vector_faults w m v   their parts: a width, and a vector of that width;   bit_faults w k   15 of a bit number
--   two_vector_faults w ma va mb vb       4 of a width, then 5 of two vectors of that width
--   row_named_faults t i         7 of a row that a call names
--   record_checks t             6 to 9 of all records;          open_checks t  6 to 10 of all records
--   run_checks, size_checks, count_checks   what run, size and count refuse, in order
use Rattle.std.specs.Prelude.{Bool, not, List, [], ◌∷◌, ◌++◌, ℕ, ◌%◌, ◌^◌, leb, ltb, eqb, length, get_or}
use Rattle.std.specs.Int.Bits.{bit_and}
use Rattle.operations.specs.Limits.{record_words}
use Rattle.operations.specs.Record.{width_at}
use Rattle.operations.specs.Faults.{Fault, fault, record_faults, lock_fault}
use Rattle.bits.specs.Counted.{rising}
use Rattle.bits.specs.Limits.{width_limit}
use Rattle.checks.specs.Limits.{row_limit, record_limit}
use Rattle.checks.specs.Check.{Check, placed}
use Rattle.checks.specs.Table.{Table, record_count, record_of}

-- ---- 1: the width slice has no row, or over 256

abbrev pub no_rows : Table → Bool
no_rows t = eqb (length t.widths) 0

abbrev pub too_many_rows : Table → Bool
too_many_rows t = ltb row_limit (length t.widths)

-- ---- 2: the four row slices differ in length

abbrev pub locks_differ : Table → Bool
locks_differ t = not (eqb (length t.locks) (length t.widths))

abbrev pub masks_differ : Table → Bool
masks_differ t = not (eqb (length t.masks) (length t.widths))

abbrev pub values_differ : Table → Bool
values_differ t = not (eqb (length t.values) (length t.widths))

-- ---- 3: record words not a multiple of six (02, request 11: "Refusal 3 counts sixes"), over 1,024 records, first after last, or last past the end

abbrev pub words_left_over : Table → Bool
words_left_over t = not (eqb (length t.words % record_words) 0)

abbrev pub too_many_records : Table → Bool
too_many_records t = ltb record_limit (record_count t)

abbrev pub first_after_last : ℕ → ℕ → Bool
first_after_last first last = ltb last first

abbrev pub last_past_end : Table → ℕ → Bool
last_past_end t last = ltb (record_count t) last

-- ---- 4: width outside 1 to 32, or lock over 1

abbrev pub width_zero : ℕ → Bool
width_zero w = eqb w 0

abbrev pub width_over : ℕ → Bool
width_over w = ltb width_limit w

abbrev pub lock_over : ℕ → Bool
lock_over l = ltb 1 l

-- ---- 5: vector not well formed: its mask or its value has a bit at or above the width, or they share a set bit

abbrev pub plane_over : ℕ → ℕ → Bool
plane_over w n = leb (2 ^ w) n

abbrev pub planes_meet : ℕ → ℕ → Bool
planes_meet m v = not (eqb (bit_and m v) 0)

-- ---- 7 of count, and of reset_bits (02, request 9): the row named outside the table

abbrev pub row_outside : Table → ℕ → Bool
row_outside t i = leb (length t.widths) i

-- ---- 15: "a bit number at or above the width" (02, request 6)

abbrev pub bit_outside : ℕ → ℕ → Bool
bit_outside w k = leb w k

-- ---- the lists

abbrev pub row_shape_faults : Table → List Fault
row_shape_faults t = fault (no_rows t) 1 ∷ fault (too_many_rows t) 1 ∷ fault (locks_differ t) 2 ∷ fault (masks_differ t) 2 ∷ fault (values_differ t) 2 ∷ []

abbrev pub word_faults : Table → List Fault
word_faults t = fault (words_left_over t) 3 ∷ fault (too_many_records t) 3 ∷ []

abbrev pub stretch_faults : Table → ℕ → ℕ → List Fault
stretch_faults t first last = fault (first_after_last first last) 3 ∷ fault (last_past_end t last) 3 ∷ []

abbrev pub width_faults : ℕ → List Fault
width_faults w = fault (width_zero w) 4 ∷ fault (width_over w) 4 ∷ []

abbrev pub vector_faults : ℕ → ℕ → ℕ → List Fault
vector_faults w m v = fault (plane_over w m) 5 ∷ fault (plane_over w v) 5 ∷ fault (planes_meet m v) 5 ∷ []

-- of two operands (02, request 6: "width as 4 and vectors as 5"), or of a row of two states (02, request 12: "the first state's row before the second's")
abbrev pub two_vector_faults : ℕ → ℕ → ℕ → ℕ → ℕ → List Fault
two_vector_faults w ma va mb vb = width_faults w ++ (vector_faults w ma va ++ vector_faults w mb vb)

abbrev pub bit_faults : ℕ → ℕ → List Fault
bit_faults w k = fault (bit_outside w k) 15 ∷ []

abbrev pub row_named_faults : Table → ℕ → List Fault
row_named_faults t i = fault (row_outside t i) 7 ∷ []

abbrev pub row_faults : ℕ → ℕ → ℕ → ℕ → List Fault
row_faults w l m v = width_faults w ++ fault (lock_over l) 4 ∷ vector_faults w m v

abbrev pub row_faults_at : Table → ℕ → List Fault
row_faults_at t i = row_faults (width_at t.widths i) (get_or t.locks i 0) (get_or t.masks i 0) (get_or t.values i 0)

-- Place is a row for 4 and 5, a record for 6 to 10, the row named for 7 of that row, else 0.
abbrev pub row_checks : Table → List Check
row_checks t = rising (λ i. placed i (row_faults_at t i)) 0 (length t.widths)

abbrev pub record_checks : Table → List Check
record_checks t = rising (λ i. placed i (record_faults t.widths (record_of t i))) 0 (record_count t)

abbrev pub open_checks : Table → List Check
open_checks t = rising (λ i. placed i (record_faults t.widths (record_of t i)) ++ placed i (lock_fault t.locks (record_of t i))) 0 (record_count t)

unfoldable pub run_checks : Table → ℕ → ℕ → List Check
run_checks t first last = placed 0 (row_shape_faults t) ++ (placed 0 (word_faults t) ++ (placed 0 (stretch_faults t first last) ++ (row_checks t ++ open_checks t)))

unfoldable pub size_checks : Table → List Check
size_checks t = placed 0 (row_shape_faults t) ++ (placed 0 (word_faults t) ++ (row_checks t ++ record_checks t))

unfoldable pub count_checks : Table → ℕ → List Check
count_checks t i = placed 0 (row_shape_faults t) ++ (row_checks t ++ placed i (row_named_faults t i))
