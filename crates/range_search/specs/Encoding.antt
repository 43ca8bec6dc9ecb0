-- How the code finds a range. Cited by contracts of inner functions alone: no public contract rests on it.
--   PartUpTo m bound s   s is at most bound, and its set bits are bits of m
--   taken m k room       bit k of m as a number, where it is at most room, else 0
--   differing a b        how many of the lowest bits hold all that differ in the words a and b
--   spanned m a b        unknown among these bits where m is 1, else the bits of a
use Rattle.std.specs.Prelude.{cond, ℕ, ◌-◌, ◌*◌, ◌%◌, ◌^◌, ◌≤◌, leb}
use Rattle.std.specs.Int.Bits.{bit_and, bit_xor}
use Rattle.std.specs.Int.Count.{count_leading_zeros}
use Rattle.bits.specs.Bit.{bit}
use Rattle.vectors.specs.declared.Vector.{Vector}

pub record PartUpTo (m bound s : ℕ) : Type 0 where
  pub part : (k : ℕ) → bit s k ≤ bit m k
  pub up_to : s ≤ bound

abbrev pub taken : ℕ → ℕ → ℕ → ℕ
taken m k room = cond (leb (bit m k * 2 ^ k) room) (bit m k * 2 ^ k) 0

abbrev pub differing : ℕ → ℕ → ℕ
differing a b = 32 - count_leading_zeros 32 (bit_xor a b)

abbrev pub spanned : ℕ → ℕ → ℕ → Vector
spanned m a b =
    let mask = m % 2 ^ differing a b in
    record { mask = mask; value = bit_and a (2 ^ 32 - 1 - mask) }
