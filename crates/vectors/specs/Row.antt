-- Vectors (01, "Vectors and rows"). A row of a table is a vector: the term that 01 coins for its width, mask and value.
--   Row            a width, a mask and a value; a mask bit that is 1 means unknown, else the value bit is the bit
--   row w m v      the row that is made of these
--   row_of w v     the row of width w that a vector of the code stands for
--   WellFormed r   mask and value share no set bit, and neither has a bit at or above the width
--   Covers r n     n is a plain number below 2 ^ width that agrees with r at every known bit
--   Inside p q     01's term: q covers all that p covers
--   KnownAs r k b  bit k of r is known, and is b
--   unknowns r     how many bits below the width are unknown
use Rattle.std.specs.Prelude.{◌≡◌, ℕ, ◌^◌, ◌<◌}
use Rattle.std.specs.Int.Count.{ones_in}
use Rattle.bits.specs.Bit.{bit}
use Rattle.vectors.specs.declared.Vector.{Vector}

pub record Row : Type 0 where
  pub width : ℕ
  pub mask : ℕ
  pub value : ℕ

abbrev pub row : ℕ → ℕ → ℕ → Row
row w m v = record { width = w; mask = m; value = v }

abbrev pub row_of : ℕ → Vector → Row
row_of w v = row w v.mask v.value

-- "It is well formed if m and v share no set bit and neither has a bit at or above w": a number below 2 ^ w has none.
pub record WellFormed (r : Row) : Type 0 where
  pub mask_below : r.mask < 2 ^ r.width
  pub value_below : r.value < 2 ^ r.width
  pub apart : (k : ℕ) → bit r.mask k ≡ 1 → bit r.value k ≡ 0

-- "It covers a plain number below 2^w if they agree at every known bit."
pub record Covers (r : Row) (n : ℕ) : Type 0 where
  pub below : n < 2 ^ r.width
  pub agrees : (k : ℕ) → k < r.width → bit r.mask k ≡ 0 → bit n k ≡ bit r.value k

-- "Vector p lies inside q if q covers all that p covers."
abbrev pub Inside : Row → Row → Type 0
Inside p q = (n : ℕ) → Covers p n → Covers q n

-- "Below the width a bit is unknown if its mask bit is 1, else known" (01, "Points and plain runs").
pub record KnownAs (r : Row) (k b : ℕ) : Type 0 where
  pub known : bit r.mask k ≡ 0
  pub as_value : bit r.value k ≡ b

abbrev pub unknowns : Row → ℕ
unknowns r = ones_in r.width r.mask
