-- The column sum of bit k of a product (01, "Products"; document 002, equation 25), and the bit that two floors settle.
--   sum n f             f 0 + f 1 + .. + f (n - 1)
--   terms_below k a b    the terms of the product below column k
--   one_pairs k a b      how many pairs of column k are 1 and 1
--   column_sum k a b     the column sum
--   column_floor k a b   its quotient by 2^k, rounded down
--   same_integer y z     whether y and z are equal
--   mod_two z            z modulo 2, 0 or 1
--   bit_of_floors y z     the bit for the floors y of the least and z of the greatest column sum
use Rattle.std.specs.Prelude.{Bool, false, cond, ℕ, zero, suc, ◌+◌, ◌-◌, ◌*◌, ◌%◌, ◌^◌, eqb, ℤ, pos, negsuc, ◌-ℤ◌}
use Rattle.std.specs.Int.Signed.{shr_z}
use Rattle.bits.specs.Bit.{bit}
use Rattle.vectors.specs.declared.OutputBit.{OutputBit}
use Rattle.vectors.specs.declared.OutputBit.TheVariants.{Zero, One, Unknown}

unfoldable pub sum : ℕ → (ℕ → ℕ) → ℕ
sum zero f = 0
sum (suc n) f = sum n f + f n

-- "the sum of 2^(i+j) a_i b_j over i + j < k"
unfoldable pub terms_below : ℕ → ℕ → ℕ → ℕ
terms_below k a b = sum k (λ i. sum (k - i) (λ j. 2 ^ (i + j) * (bit a i * bit b j)))

-- "With i from 0 to k, the pair (a_i, b_(k-i)) belongs to column k."
unfoldable pub one_pairs : ℕ → ℕ → ℕ → ℕ
one_pairs k a b = sum (suc k) (λ i. bit a i * bit b (k - i))

-- "less 2^k for every column pair that is 1 and 1; it may be negative"
unfoldable pub column_sum : ℕ → ℕ → ℕ → ℤ
column_sum k a b = pos (terms_below k a b) -ℤ pos (2 ^ k * one_pairs k a b)

-- "the quotient by 2^k rounds down"
unfoldable pub column_floor : ℕ → ℕ → ℕ → ℤ
column_floor k a b = shr_z (column_sum k a b) (2 ^ k)

abbrev pub same_integer : ℤ → ℤ → Bool
same_integer (pos m) (pos n) = eqb m n
same_integer (pos m) (negsuc n) = false
same_integer (negsuc m) (pos n) = false
same_integer (negsuc m) (negsuc n) = eqb m n

abbrev pub mod_two : ℤ → ℕ
mod_two (pos n) = n % 2
mod_two (negsuc n) = (n + 1) % 2

-- "The bit is known exactly if floor(low / 2^k) = floor(high / 2^k), and is then that number modulo 2."
unfoldable pub bit_of_floors : ℤ → ℤ → OutputBit
bit_of_floors low high = cond (same_integer low high) (cond (eqb (mod_two low) 1) One Zero) Unknown
