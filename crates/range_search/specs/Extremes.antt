-- The smallest and the largest number of a set (02, request 8: "with the smallest and the largest of them").
--   Least P n, Greatest P n   n is of the set P, and no number of it is smaller, or larger
--   smallest_below n p         the smallest number below n that passes the test p, where one does;   largest_below n p   the largest
use Rattle.std.specs.Prelude.{Bool, cond, ℕ, zero, suc, ◌≤◌}
use Rattle.bits.specs.Below.{some_below}

pub record Least (P : ℕ → Type 0) (n : ℕ) : Type 0 where
  pub is_inside : P n
  pub least : (m : ℕ) → P m → n ≤ m

pub record Greatest (P : ℕ → Type 0) (n : ℕ) : Type 0 where
  pub is_inside : P n
  pub greatest : (m : ℕ) → P m → m ≤ n

unfoldable pub smallest_below : ℕ → (ℕ → Bool) → ℕ
smallest_below zero p = zero
smallest_below (suc n) p = cond (some_below n p) (smallest_below n p) n

unfoldable pub largest_below : ℕ → (ℕ → Bool) → ℕ
largest_below zero p = zero
largest_below (suc n) p = cond (p n) n (largest_below n p)
