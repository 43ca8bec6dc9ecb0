-- What `evaluate` prints for a text (01, "Text"): "runs all records and prints the whole table, or one line of three fields".
--   held_rows, held_records   how many rows and records it holds
--   text_room                bytes of its buffer for an input;   output_room   bytes that its output never exceeds
--   Rooms text n out        the buffers have this room, and n bytes of the first are filled
--   HeldOf text n input     the n bytes are the input, or as much of it as the buffer holds
--   Printed bytes r old new the bytes are counted by r and put into the buffer
--   refused_word, refused_line n i   the first field, and the line, of a refusal: its number and its place
--   Told bytes a old new    by the answer a: the bytes are counted and put into the buffer; or they are the line of the refusal, and the buffer is left
--   printed_run t r          what run's outcome r on the table t prints
--   printed_table t          all records of the table t run, and what that prints
--   printed_read text a      what read's answer a on the text prints;   held_slices   the slices that the program has, all 0
--   evaluate_in text lent    read into the slices lent, then that;   evaluate_of text   with held_slices
use Rattle.std.specs.Prelude.{◌≡◌, List, [], ◌∷◌, ◌++◌, ℕ, ◌+◌, ◌*◌, ◌≤◌, length, take, replicate, Result, Ok, Err}
use Rattle.operations.specs.Limits.{record_words}
use Rattle.checks.specs.Limits.{row_limit, record_limit}
use Rattle.checks.specs.Check.{Answer, done, refused}
use Rattle.checks.specs.Table.{Table, with_rows, record_count}
use Rattle.checks.specs.declared.refusals.Refusal.{Refusal}
use Rattle.checks.specs.Model.{reason_number}
use Rattle.tables.specs.Run.{Ran, run_of}
use Rattle.grammar.specs.Limits.{text_limit, row_bytes, record_bytes}
use Rattle.grammar.specs.Lists.{filled}
use Rattle.operations.specs.Kind.{bytes}
use Rattle.grammar.specs.Words.{lf, tab, header3}
use Rattle.grammar.specs.Print.{decimal, joined, text_of}
use Rattle.grammar.specs.Lines.{table_read}
use Rattle.texts.specs.Calls.{Counts, read_of}

-- the bytes are counted by r, and stand in the buffer from its start, its rest left
pub record Printed (bytes : List ℕ) (r : ℕ) (old new : List ℕ) : Type 0 where
  pub count : r ≡ length bytes
  pub buffer : new ≡ filled bytes old

-- "It holds 256 rows and 1,024 records."

abbrev pub held_rows : ℕ
held_rows = row_limit

abbrev pub held_records : ℕ
held_records = record_limit

abbrev pub output_room : ℕ
output_room = length header3 + row_bytes * held_rows + record_bytes * held_records

-- "11 over 40,000 bytes": one byte more shows a longer input to be longer
abbrev pub text_room : ℕ
text_room = text_limit + 1

pub record Rooms (text : List ℕ) (n : ℕ) (out : List ℕ) : Type 0 where
  pub text_fits : text_room ≤ length text
  pub within : n ≤ length text
  pub output_fits : output_room ≤ length out

pub record HeldOf (text : List ℕ) (n : ℕ) (input : List ℕ) : Type 0 where
  pub first_bytes : take n text ≡ take (length text) input

abbrev pub refused_word : List ℕ
refused_word = bytes "refused"

-- "one line of three fields: `refused`, number, place"
unfoldable pub refused_line : ℕ → ℕ → List ℕ
refused_line n i = joined tab (refused_word ∷ decimal n ∷ decimal i ∷ []) ++ lf ∷ []

abbrev pub Told : List ℕ → Result ℕ Refusal → List ℕ → List ℕ → Type 0
Told bytes (Ok n) old new = Printed bytes n old new
Told bytes (Err r) old new = (refused_line (reason_number r.reason) r.place ≡ bytes) × (new ≡ old)

abbrev pub printed_run : Table → Ran → Answer ℕ → List ℕ
printed_run t r (done last) = text_of (with_rows t r.left)
printed_run t r (refused n i) = refused_line n i

-- "runs all records and prints the whole table"
unfoldable pub printed_table : Table → List ℕ
printed_table t = printed_run t (run_of t 0 (record_count t)) (run_of t 0 (record_count t)).answer

abbrev pub printed_read : List ℕ → Answer Counts → List ℕ
printed_read text (done counts) = printed_table (table_read text)
printed_read text (refused n i) = refused_line n i

unfoldable pub evaluate_in : List ℕ → Table → List ℕ
evaluate_in text lent = printed_read text (read_of text lent).answer

abbrev pub held_slices : Table
held_slices =
    record {
      widths = replicate held_rows 0;
      locks = replicate held_rows 0;
      masks = replicate held_rows 0;
      values = replicate held_rows 0;
      words = replicate (record_words * held_records) 0;
    }

unfoldable pub evaluate_of : List ℕ → List ℕ
evaluate_of text = evaluate_in text held_slices
