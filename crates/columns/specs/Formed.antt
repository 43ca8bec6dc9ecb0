-- Two operands (01, "Products": "well-formed vectors of one width").
--   Formed w ma va mb vb   both are well-formed vectors of width w, at most width_limit
use Rattle.std.specs.Prelude.{ℕ, ◌≤◌}
use Rattle.bits.specs.Limits.{width_limit}
use Rattle.vectors.specs.Row.{row, WellFormed}

pub record Formed (w ma va mb vb : ℕ) : Type 0 where
  pub most : w ≤ width_limit
  pub first : WellFormed (row w ma va)
  pub second : WellFormed (row w mb vb)
