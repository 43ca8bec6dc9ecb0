-- Numbers that 01, "Vectors and rows" and "Records" set.
--   row_limit      the most rows of a table;   record_limit   the most records
use Rattle.std.specs.Prelude.{ℕ}

abbrev pub row_limit : ℕ
row_limit = 256

abbrev pub record_limit : ℕ
record_limit = 1024
