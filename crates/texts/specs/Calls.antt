-- What size, write and read answer and leave (01, "Calls" and "Who can cause a refusal"; 02, request 1, for size and 14).
--   size_of t                     size's answer
--   buffer_short t room           the condition of 14;   write_checks t room   what write refuses, in order
--   Written, write_of t out       write's answer, and the buffer that it leaves
--   lent_checks, length_checks, line_checks, room_checks   2, 11, 12 and 13 of read
--   text_over, rows_exceed, words_exceed   the conditions of 11 and 13;   bad_line text   the first bad line, from 1, or 0
--   read_checks text lent         what read refuses, in order
--   Counts, counts_of t           how many rows and records
--   ReadBack, read_of text lent   read's answer, and the five slices that it leaves;   read_as   these of a verdict of read's checks
--   filled_with new lent          the slices with the table new at their start
--   first_of c slices             the first rows and records of the slices, as many as c counts
use Rattle.std.specs.Prelude.{Bool, false, not, List, [], ◌∷◌, ◌++◌, ℕ, ◌*◌, ltb, eqb, length, take}
use Rattle.operations.specs.Limits.{record_words}
use Rattle.operations.specs.Faults.{fault}
use Rattle.checks.specs.Check.{Answer, done, refused, Leaves, leaving, Check, verdict, placed}
use Rattle.checks.specs.Table.{Table, record_count}
use Rattle.checks.specs.Checks.{size_checks, locks_differ, masks_differ, values_differ}
use Rattle.grammar.specs.Limits.{text_limit}
use Rattle.grammar.specs.Lists.{filled}
use Rattle.grammar.specs.Print.{text_of}
use Rattle.grammar.specs.Lines.{opening, lines_in, first_bad, table_read}

-- "Size shall be the number of bytes that the text has, no more." (02, request 1)
unfoldable pub size_of : Table → Answer ℕ
size_of t = verdict (size_checks t) (length (text_of t))

abbrev pub Written : Type 0
Written = Leaves (List ℕ)

-- "Refusal 14 is then given if the buffer is shorter than the text itself." (02, request 1)
abbrev pub buffer_short : Table → ℕ → Bool
buffer_short t room = ltb room (length (text_of t))

-- "write 1 to 9 then 14"
unfoldable pub write_checks : Table → ℕ → List Check
write_checks t room = size_checks t ++ placed 0 (fault (buffer_short t room) 14 ∷ [])

-- "Write answers the text's byte count and leaves the buffer's rest."
unfoldable pub write_of : Table → List ℕ → Written
write_of t out = leaving (verdict (write_checks t (length out)) (length (text_of t))) out (filled (text_of t) out)

-- ---- read

-- 2: the four row slices differ in length
abbrev pub lent_checks : Table → List Check
lent_checks lent = placed 0 (fault (locks_differ lent) 2 ∷ fault (masks_differ lent) 2 ∷ fault (values_differ lent) 2 ∷ [])

-- 11: over 40,000 bytes
abbrev pub text_over : List ℕ → Bool
text_over text = ltb text_limit (length text)

abbrev pub length_checks : List ℕ → List Check
length_checks text = placed 0 (fault (text_over text) 11 ∷ [])

-- 12: the first bad line, from 1, is its place
abbrev pub bad_line : List ℕ → ℕ
bad_line text = first_bad false (opening text).first (lines_in text)

abbrev pub line_checks : List ℕ → List Check
line_checks text = placed (bad_line text) (fault (not (eqb (bad_line text) 0)) 12 ∷ [])

-- 13: row lines or record words exceed the lent slices
abbrev pub rows_exceed : Table → Table → Bool
rows_exceed new lent = ltb (length lent.widths) (length new.widths)

abbrev pub words_exceed : Table → Table → Bool
words_exceed new lent = ltb (length lent.words) (length new.words)

abbrev pub room_checks : Table → Table → List Check
room_checks new lent = placed 0 (fault (rows_exceed new lent) 13 ∷ fault (words_exceed new lent) 13 ∷ [])

-- "read 2, 11, 12, 13"
unfoldable pub read_checks : List ℕ → Table → List Check
read_checks text lent = lent_checks lent ++ length_checks text ++ line_checks text ++ room_checks (table_read text) lent

pub record Counts : Type 0 where
  pub rows : ℕ
  pub records : ℕ

abbrev pub counts_of : Table → Counts
counts_of t = record { rows = length t.widths; records = record_count t }

pub record ReadBack : Type 0 where
  pub answer : Answer Counts
  pub slices : Table

abbrev pub filled_with : Table → Table → Table
filled_with new lent =
    record {
      widths = filled new.widths lent.widths;
      locks = filled new.locks lent.locks;
      masks = filled new.masks lent.masks;
      values = filled new.values lent.values;
      words = filled new.words lent.words;
    }

-- "Read fills from the start of the lent slices, answers both counts and leaves the rest."
abbrev pub read_as : Answer Counts → Table → Table → ReadBack
read_as (done counts) new lent = record { answer = done counts; slices = filled_with new lent }
read_as (refused number place) new lent = record { answer = refused number place; slices = lent }

unfoldable pub read_of : List ℕ → Table → ReadBack
read_of text lent = read_as (verdict (read_checks text lent) (counts_of (table_read text))) (table_read text) lent

-- where the table is that read left, by the counts that it answers
abbrev pub first_of : Counts → Table → Table
first_of c slices =
    record {
      widths = take c.rows slices.widths;
      locks = take c.rows slices.locks;
      masks = take c.rows slices.masks;
      values = take c.rows slices.values;
      words = take (record_words * c.records) slices.words;
    }
