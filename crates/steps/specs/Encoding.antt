-- What the code that works on rows of its own takes for granted. Cited by contracts of inner functions alone: no public contract rests on it.
--   Copyable s tm tv         rows of which mask and value share no bit, and two slices for as many rows
--   OwnRows widths tm tv     two slices for as many rows as the table's
--   RoomFor widths rm rv     two slices with room for as many rows
use Rattle.std.specs.Prelude.{◌≡◌, List, ℕ, ◌≤◌, ◌<◌, length, get_or}
use Rattle.std.specs.Int.Bits.{bit_and}
use Rattle.checks.specs.Table.{State}

pub record Copyable (s : State) (tm tv : List ℕ) : Type 0 where
  pub values_length : length s.values ≡ length s.masks
  pub to_masks : length tm ≡ length s.masks
  pub to_values : length tv ≡ length s.masks
  pub apart : (i : ℕ) → i < length s.masks → bit_and (get_or s.masks i 0) (get_or s.values i 0) ≡ 0

pub record OwnRows (widths tm tv : List ℕ) : Type 0 where
  pub masks_length : length tm ≡ length widths
  pub values_length : length tv ≡ length widths

pub record RoomFor (widths rm rv : List ℕ) : Type 0 where
  pub masks : length widths ≤ length rm
  pub values : length widths ≤ length rv
