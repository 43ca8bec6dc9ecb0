-- Covered numbers of an operand (01, "Vectors and rows"), and what a product of them shows of a column (01, "Abstract result"). Cited by the contracts
-- of inner functions alone.
--   Covered m v n                n is covered by the vector (m, v), at every width at which it is well formed
--   difference plain a b         the columns in which a · b differs from the plain product
--   difference_at plain va vb s   the same where s has the unknown bits that are set, those of the first operand in its low half
--   low_exhaustive_limit           so many unknown bits may stand below the cut
--   exhaustive_limit              so many in all are tried in every choice
--   Witness plain a mb vb k      a covered number of the second operand whose product with a differs from the plain one in column k
use Rattle.std.specs.Prelude.{◌≡◌, ℕ, ◌*◌, ◌/◌, ◌%◌, ◌^◌, bit_or, bit_xor}
use Rattle.bits.specs.Bit.{bit}
use Rattle.vectors.specs.Row.{row, WellFormed, Covers}

abbrev pub Covered : ℕ → ℕ → ℕ → Type 0
Covered m v n = (w : ℕ) → WellFormed (row w m v) → Covers (row w m v) n

unfoldable pub difference : ℕ → ℕ → ℕ → ℕ
difference plain a b = bit_xor plain (a * b % 2 ^ 32)

unfoldable pub difference_at : ℕ → ℕ → ℕ → ℕ → ℕ
difference_at plain va vb s = difference plain (bit_or va (s % 2 ^ 32)) (bit_or vb (s / 2 ^ 32))

abbrev pub low_exhaustive_limit : ℕ
low_exhaustive_limit = 3

abbrev pub exhaustive_limit : ℕ
exhaustive_limit = 4

pub record Witness (plain a mb vb k : ℕ) : Type 0 where
  pub number : ℕ
  pub covered : Covered mb vb number
  pub differs : bit (difference plain a number) k ≡ 1
