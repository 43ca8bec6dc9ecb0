-- SMT-LIB's bit vectors (theory FixedSizeBitVectors), by positions, and the functions that the theory names.
--   Bitvector       a width, and a bit at each position below it
--   sum_to m s       the sum of s(x) · 2^x over the positions x below m
--   nat s           SMT-LIB's bv2nat: the sum of s(x) · 2^x over the positions x
--   bv m n          SMT-LIB's nat2bv[m]: the vector of width m whose number is n modulo 2^m
--   extract i j s   the vector of positions j to i of s
--   concat s t      s is the high part, t the low part
--   top s           the highest bit of s
use Rattle.std.specs.Prelude.{Bool, cond, ℕ, zero, suc, ◌+◌, ◌-◌, ◌*◌, ◌^◌, ltb}
use Rattle.bits.specs.Bit.{digit, is_set}

pub record Bitvector : Type 0 where
  pub width : ℕ
  pub at : ℕ → Bool

unfoldable pub sum_to : ℕ → (ℕ → Bool) → ℕ
sum_to zero s = zero
sum_to (suc m) s = digit (s m) * 2 ^ m + sum_to m s

unfoldable pub nat : Bitvector → ℕ
nat s = sum_to s.width s.at

unfoldable pub bv : ℕ → ℕ → Bitvector
bv m n = record { width = m; at = is_set n }

unfoldable pub extract : ℕ → ℕ → Bitvector → Bitvector
extract i j s = record { width = i - j + 1; at = λ x. s.at (j + x) }

unfoldable pub concat : Bitvector → Bitvector → Bitvector
concat s t = record { width = s.width + t.width; at = λ x. cond (ltb x t.width) (t.at x) (s.at (x - t.width)) }

unfoldable pub top : Bitvector → Bool
top s = s.at (s.width - 1)
