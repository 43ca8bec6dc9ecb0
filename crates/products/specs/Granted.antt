-- What the routine for one product bit takes for granted (01, "Products").
--   Granted ma va mb vb k   the masks and values are those of well-formed vectors of one width, and bit k is below it
use Rattle.std.specs.Prelude.{ℕ, ◌<◌}
use Rattle.columns.specs.Formed.{Formed}

-- "it may take for granted well-formed vectors of one width and a bit below it"; a width is 1 to 32
pub record Granted (ma va mb vb k : ℕ) : Type 0 where
  pub width : ℕ
  pub formed : Formed width ma va mb vb
  pub below : k < width
