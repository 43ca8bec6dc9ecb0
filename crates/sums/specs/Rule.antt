-- The rule for the bits of a sum (01, "Sums"), as a claim about a vector.
--   lowest_sum k ns          the exact sum of the lowest k + 1 bits of both operands
--   lowest_difference k ns   for sub, their exact difference, and 2 ^ (k + 1) more
--   lowest_negation k ns     for neg, 0 less the lowest k + 1 bits of the operand, and 2 ^ (k + 1) more
--   Extremes g rows low high   low and high are the least and the greatest g over all choices of covered operands
--   SumRule g rows k r      bit k of r is known exactly as the rule says
-- A difference may be negative, and these are natural numbers: the 2 ^ (k + 1) that is added, a multiple of 2 ^ k, raises both floors by 2, so it changes
-- neither whether they are equal nor the number modulo 2.
use Rattle.std.specs.Prelude.{◌≡◌, ℕ, suc, ◌+◌, ◌-◌, ◌/◌, ◌%◌, ◌^◌, ◌≤◌, ◌↔◌, List}
use Rattle.bits.specs.Bit.{bit}
use Rattle.vectors.specs.Row.{Row}
use Rattle.vectors.specs.Choice.{Chosen}
use Rattle.vectors.specs.Hull.{Results}
use Rattle.operations.specs.Kind.{first, second}

-- "For bit k take the lowest k + 1 bits of both operands."
abbrev pub lowest_sum : ℕ → List ℕ → ℕ
lowest_sum k ns = first ns % 2 ^ suc k + second ns % 2 ^ suc k

abbrev pub lowest_difference : ℕ → List ℕ → ℕ
lowest_difference k ns = 2 ^ suc k + first ns % 2 ^ suc k - second ns % 2 ^ suc k

abbrev pub lowest_negation : ℕ → List ℕ → ℕ
lowest_negation k ns = 2 ^ suc k - first ns % 2 ^ suc k

-- "Let low and high be the least and greatest exact sum (for sub, difference)."
pub record Extremes (g : List ℕ → ℕ) (rows : List Row) (low high : ℕ) : Type 0 where
  pub low_reached : Results g rows low
  pub high_reached : Results g rows high
  pub low_least : (ns : List ℕ) → Chosen rows ns → low ≤ g ns
  pub high_greatest : (ns : List ℕ) → Chosen rows ns → g ns ≤ high

-- "The bit is known exactly if floor(low / 2^k) = floor(high / 2^k), and is then that number modulo 2."
pub record SumRule (g : List ℕ → ℕ) (rows : List Row) (k : ℕ) (r : Row) : Type 0 where
  pub low : ℕ
  pub high : ℕ
  pub extremes : Extremes g rows low high
  pub known_iff : (bit r.mask k ≡ 0) ↔ (low / 2 ^ k ≡ high / 2 ^ k)
  pub value_is : bit r.mask k ≡ 0 → bit r.value k ≡ low / 2 ^ k % 2
