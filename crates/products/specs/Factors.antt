-- The factors at which section 7.2 of document 002 reaches the extremes of a column sum (algorithm 2). They are cited by the contracts of the inner
-- functions alone: what `product_bit_unchecked` and `mul` promise does not lean on them.
--   and_not x y                     the bits of x that y does not have
--   least_factor k m v pm pv        a factor that makes the column sum least, for a vector (m, v) and the other factor's vector (pm, pv)
--   greatest_factor k m v pm pv     one that makes it greatest; in both a bit of a pair unknown on both sides is 0
--   low_row k i b                   what bit i of one factor adds below column k, for the other factor b
--   least_bit k i a b               the lone pair's two bits in the least sum (equation 28)
--   greatest_bit k i a b            the lone pair's first bit in the greatest sum, whose second bit is the other (equation 29)
--   extremes_of k ma va mb vb       the factors of both extremes
--   with_pair k i x                 .. with the bits of a lone pair, at place i of the first factor
--   settled_bit k x                 the bit that the floors of the column sums at the extremes settle
use Rattle.std.specs.Prelude.{ℕ, ◌+◌, ◌-◌, ◌*◌, ◌%◌, ◌^◌, leb}
use Rattle.std.specs.Int.Bits.{bit_and, bit_or, bit_xor}
use Rattle.bits.specs.Bit.{digit}
use Rattle.bits.specs.Reversed.{reversed}
use Rattle.vectors.specs.declared.OutputBit.{OutputBit}
use Rattle.products.specs.declared.factors.Extremes.{Extremes}
use Rattle.products.specs.ColumnSum.{column_floor, bit_of_floors}

unfoldable pub and_not : ℕ → ℕ → ℕ
and_not x y = bit_xor x (bit_and x y)

-- an unknown bit whose partner is known takes the partner's bit
unfoldable pub least_factor : ℕ → ℕ → ℕ → ℕ → ℕ → ℕ
least_factor k m v pm pv = bit_or v (bit_and (and_not m (reversed (k + 1) pm)) (reversed (k + 1) pv))

-- an unknown bit whose partner is known takes the other bit
unfoldable pub greatest_factor : ℕ → ℕ → ℕ → ℕ → ℕ → ℕ
greatest_factor k m v pm pv = bit_or v (and_not (and_not m (reversed (k + 1) pm)) (reversed (k + 1) pv))

unfoldable pub low_row : ℕ → ℕ → ℕ → ℕ
low_row k i b = 2 ^ i * (b % 2 ^ (k - i))

unfoldable pub least_bit : ℕ → ℕ → ℕ → ℕ → ℕ
least_bit k i a b = digit (leb (low_row k i b + low_row k (k - i) a) (2 ^ k))

unfoldable pub greatest_bit : ℕ → ℕ → ℕ → ℕ → ℕ
greatest_bit k i a b = digit (leb (low_row k (k - i) a) (low_row k i b))

unfoldable pub extremes_of : ℕ → ℕ → ℕ → ℕ → ℕ → Extremes
extremes_of k ma va mb vb =
    record {
      least = record { a = least_factor k ma va mb vb; b = least_factor k mb vb ma va };
      greatest = record { a = greatest_factor k ma va mb vb; b = greatest_factor k mb vb ma va };
    }

unfoldable pub with_pair : ℕ → ℕ → Extremes → Extremes
with_pair k i x =
    let s : ℕ = least_bit k i x.least.a x.least.b in
    let t : ℕ = greatest_bit k i x.greatest.a x.greatest.b in
    record {
      least = record { a = bit_or x.least.a (s * 2 ^ i); b = bit_or x.least.b (s * 2 ^ (k - i)) };
      greatest = record { a = bit_or x.greatest.a (t * 2 ^ i); b = bit_or x.greatest.b ((1 - t) * 2 ^ (k - i)) };
    }

unfoldable pub settled_bit : ℕ → Extremes → OutputBit
settled_bit k x = bit_of_floors (column_floor k x.least.a x.least.b) (column_floor k x.greatest.a x.greatest.b)
