-- The number that 01, "Vectors and rows" sets for vectors.
--   width_limit   the greatest width: a vector is held as two 32-bit numbers
use Rattle.std.specs.Prelude.{ℕ}

abbrev pub width_limit : ℕ
width_limit = 32
