-- What product_bit refuses and answers, and the checks of two bare vectors (02, request 6). A bare vector is 02's term for a vector that stands in no table.
--   both_rows w ma va mb vb             the two vectors as rows of one width
--   product_bit_checks w ma va mb vb k   what product_bit refuses, in order
--   product_bit_of w ma va mb vb k       what it answers
use Rattle.std.specs.Prelude.{List, [], ◌∷◌, ◌++◌, ℕ}
use Rattle.vectors.specs.Row.{Row, row}
use Rattle.vectors.specs.declared.OutputBit.{OutputBit}
use Rattle.vectors.specs.OutputBits.{output_bit}
use Rattle.operations.specs.Arithmetic.{op_mul}
use Rattle.operations.specs.Result.{result_of}
use Rattle.checks.specs.Check.{Answer, Check, verdict, placed}
use Rattle.checks.specs.Checks.{two_vector_faults, bit_faults}

-- "well-formed vectors of one width" (01, "Products")
abbrev pub both_rows : ℕ → ℕ → ℕ → ℕ → ℕ → List Row
both_rows w ma va mb vb = row w ma va ∷ row w mb vb ∷ []

-- "It checks what it took for granted, width as 4 and vectors as 5." "It refuses a bit number at or above the width as 15, after 5. A call on bare vectors puts place 0 on every refusal."
unfoldable pub product_bit_checks : ℕ → ℕ → ℕ → ℕ → ℕ → ℕ → List Check
product_bit_checks w ma va mb vb k = placed 0 (two_vector_faults w ma va mb vb ++ bit_faults w k)

-- "a single product bit": that bit of the best result of mul over the two vectors, each operand chosen independently (01, "Abstract result")
unfoldable pub product_bit_of : ℕ → ℕ → ℕ → ℕ → ℕ → ℕ → Answer OutputBit
product_bit_of w ma va mb vb k = verdict (product_bit_checks w ma va mb vb k) (output_bit (result_of op_mul w 0 (both_rows w ma va mb vb)) k)
