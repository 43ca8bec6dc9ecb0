-- Numbers that 01, "Records" sets, and 02, request 11: "Records grow to six words".
--   record_words      words in a record
--   parameter_limit   the greatest shift, rotation or extract parameter
use Rattle.std.specs.Prelude.{ℕ}

abbrev pub record_words : ℕ
record_words = 6

abbrev pub parameter_limit : ℕ
parameter_limit = 31
