-- The sizes of what a tried table has (01, "Vectors and rows" and "Records"), by which powers, sums and products of its numbers fit 64 bits.
--   Sized wt wa wb p      widths of at most 32 bits, a first operand of at least one bit, and a parameter of at most 31
use Rattle.std.specs.Prelude.{ℕ, ◌≤◌}
use Rattle.operations.specs.Limits.{parameter_limit}
use Rattle.bits.specs.Limits.{width_limit}

-- "A vector has a width w of 1 to 32"; "p 0 to 31".
pub record Sized (wt wa wb p : ℕ) : Type 0 where
  pub target_most : wt ≤ width_limit
  pub first_least : 1 ≤ wa
  pub first_most : wa ≤ width_limit
  pub second_most : wb ≤ width_limit
  pub parameter_most : p ≤ parameter_limit
