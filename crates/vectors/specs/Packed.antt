-- A vector in one word, as functions hand it over in a register. Cited by contracts of inner functions alone: no public contract rests on it.
--   packed_row w r   the row of width w whose mask is the low half of the word r, and whose value is the high half
use Rattle.std.specs.Prelude.{ℕ, ◌/◌, ◌%◌, ◌^◌}
use Rattle.vectors.specs.Row.{Row, row}

abbrev pub packed_row : ℕ → ℕ → Row
packed_row w r = row w (r % 2 ^ 32) (r / 2 ^ 32)
