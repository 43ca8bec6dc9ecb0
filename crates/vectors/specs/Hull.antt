-- The best vector that covers a set of numbers, and the join of two vectors.
--   Shows P k b        some number of the set P has b at bit k
--   Hull w P r         r is the best vector of width w that covers P (P with at least one number)
--   Results f rows n   n is the result of f on some choice of covered operands
--   join p q           for vectors of one width: known where both are known and equal
use Rattle.std.specs.Prelude.{◌≡◌, List, ℕ, ◌<◌}
use Rattle.std.specs.Int.Bits.{bit_and, bit_or, bit_xor}
use Rattle.bits.specs.Bit.{bit}
use Rattle.vectors.specs.Row.{Row, WellFormed}
use Rattle.vectors.specs.Choice.{Chosen}

pub record Shows (P : ℕ → Type 0) (k b : ℕ) : Type 0 where
  pub shown : ℕ
  pub within : P shown
  pub shows : bit shown k ≡ b

-- "the best vector covering all numbers" of P (02, request 8): X exactly where two numbers of P disagree, else what all of P have
pub record Hull (w : ℕ) (P : ℕ → Type 0) (r : Row) : Type 0 where
  pub width_is : r.width ≡ w
  pub formed : WellFormed r
  pub unknown : (k : ℕ) → k < w → bit r.mask k ≡ 1 → Shows P k 0 × Shows P k 1
  pub known : (k : ℕ) → k < w → bit r.mask k ≡ 0 → (n : ℕ) → P n → bit n k ≡ bit r.value k

pub record Results (f : List ℕ → ℕ) (rows : List Row) (n : ℕ) : Type 0 where
  pub numbers : List ℕ
  pub chosen : Chosen rows numbers
  pub gives : f numbers ≡ n

abbrev pub join : Row → Row → Row
join p q =
    record {
      width = p.width;
      mask = bit_or (bit_or p.mask q.mask) (bit_xor p.value q.value);
      value = bit_and p.value q.value;
    }
