-- One bit of a vector as an answer (01, "Vectors and rows": mask bit 1 means unknown, else the value bit is the bit).
--   output_bit r k   bit k of the vector r: unknown, known as 1, or known as 0
--   output_mask b       the mask bit of an answer
use Rattle.std.specs.Prelude.{cond, ℕ}
use Rattle.bits.specs.Bit.{is_set}
use Rattle.vectors.specs.Row.{Row}
use Rattle.vectors.specs.declared.OutputBit.{OutputBit}
use Rattle.vectors.specs.declared.OutputBit.TheVariants.{Zero, One, Unknown}

-- "mask bit 1 means unknown, else the value bit is the bit"
unfoldable pub output_bit : Row → ℕ → OutputBit
output_bit r k = cond (is_set r.mask k) Unknown (cond (is_set r.value k) One Zero)

-- the same read the other way
abbrev pub output_mask : OutputBit → ℕ
output_mask Zero = 0
output_mask One = 0
output_mask Unknown = 1
