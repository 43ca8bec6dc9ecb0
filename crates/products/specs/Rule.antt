-- The terms in which 01, "Products", gives the rule for a product bit; the rule itself is the laws of proofs/Rule.antt.
--   DoublyUnknown k ma mb i   the pair (a_i, b_(k-i)) of column k is unknown on both sides
--   Least k p q c d           of all factors that p and q cover, c and d have the least column sum
--   Greatest k p q c d        .. the greatest
use Rattle.std.specs.Prelude.{◌≡◌, ℕ, ◌-◌, ◌≤◌, ◌≤ℤ◌}
use Rattle.bits.specs.Bit.{bit}
use Rattle.vectors.specs.Row.{Row, Covers}
use Rattle.products.specs.ColumnSum.{column_sum}

pub record DoublyUnknown (k ma mb i : ℕ) : Type 0 where
  pub within : i ≤ k
  pub first : bit ma i ≡ 1
  pub second : bit mb (k - i) ≡ 1

pub record Least (k : ℕ) (p q : Row) (c d : ℕ) : Type 0 where
  pub covers_first : Covers p c
  pub covers_second : Covers q d
  pub least : (a b : ℕ) → Covers p a → Covers q b → column_sum k c d ≤ℤ column_sum k a b

pub record Greatest (k : ℕ) (p q : Row) (c d : ℕ) : Type 0 where
  pub covers_first : Covers p c
  pub covers_second : Covers q d
  pub greatest : (a b : ℕ) → Covers p a → Covers q b → column_sum k a b ≤ℤ column_sum k c d
