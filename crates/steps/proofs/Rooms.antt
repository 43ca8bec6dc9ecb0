-- Room for the most rows is room for those of a table that passed. Assumes nothing.
use mathlib.Core.Path.{◌≡◌}
use mathlib.Core.List.{List}
use Prim.Native.Nat.{ℕ, ◌≤◌}
use native.Mathlib.Omega.{arith}
use lib.ListN.{length}
use Rattle.checks.specs.Limits.{row_limit}
use Rattle.steps.specs.Encoding.{RoomFor}

pub room_for : (widths rm rv : List ℕ) → length widths ≤ row_limit → length rm ≡ row_limit → length rv ≡ row_limit → RoomFor widths rm rv
room_for widths rm rv h m v = record { masks = omega arith; values = omega arith }
