-- Registers known within a range (02, request 8).
--   Between r low high n    n lies between the ends, ends included, and the vector r covers it;   betweenb   the test of this
--   none_between r low high  there is no such number
--   range_in r low high      the best vector covering all these numbers, with the smallest and the largest of them
--   in_range_of r low high    that, or none
--   Ranged r low high x     what is claimed of x as such an answer
use Rattle.std.specs.Prelude.{Bool, not, cond, ◌&&◌, ℕ, ◌^◌, ◌≤◌, leb, Option, None, Some}
use Rattle.bits.specs.Below.{some_below}
use Rattle.vectors.specs.Row.{Row, row, Covers}
use Rattle.vectors.specs.Choice.{coversb}
use Rattle.vectors.specs.Best.{best_of}
use Rattle.vectors.specs.Hull.{Hull}
use Rattle.range_search.specs.declared.Range.{Range}
use Rattle.range_search.specs.Extremes.{Least, Greatest, smallest_below, largest_below}

-- "all numbers that lie between the ends, ends included, and that the vector covers"
pub record Between (r : Row) (low high n : ℕ) : Type 0 where
  pub covered : Covers r n
  pub from : low ≤ n
  pub to : n ≤ high

unfoldable pub betweenb : Row → ℕ → ℕ → ℕ → Bool
betweenb r low high n = coversb r n && (leb low n && leb n high)

-- "the absence of any such number"
unfoldable pub none_between : Row → ℕ → ℕ → Bool
none_between r low high = not (some_below (2 ^ r.width) (betweenb r low high))

-- "the best vector covering all numbers .. with the smallest and the largest of them"
unfoldable pub range_in : Row → ℕ → ℕ → Range
range_in r low high =
    record {
      mask = (best_of r.width (betweenb r low high)).mask;
      value = (best_of r.width (betweenb r low high)).value;
      smallest = smallest_below (2 ^ r.width) (betweenb r low high);
      largest = largest_below (2 ^ r.width) (betweenb r low high);
    }

abbrev pub in_range_of : Row → ℕ → ℕ → Option Range
in_range_of r low high = cond (none_between r low high) None (Some (range_in r low high))

-- the same without a test or a search: the hull of these numbers, one of them that no other is below, and one that no other is above
pub record Ranged (r : Row) (low high : ℕ) (x : Range) : Type 0 where
  pub best_vector : Hull r.width (Between r low high) (row r.width x.mask x.value)
  pub smallest_is : Least (Between r low high) x.smallest
  pub largest_is : Greatest (Between r low high) x.largest
