-- Numbers that 01, "Calls", "Text" and "Who can cause a refusal" set; a record line grows with 02, request 11.
--   number_limit   the greatest number of a record line
--   text_limit     the most bytes of a text that read takes
--   row_bytes      the most bytes of a row line;   record_bytes   the most bytes of a record line
use Rattle.std.specs.Prelude.{ℕ}

abbrev pub number_limit : ℕ
number_limit = 999

abbrev pub text_limit : ℕ
text_limit = 40000

abbrev pub row_bytes : ℕ
row_bytes = 44

abbrev pub record_bytes : ℕ
record_bytes = 27
