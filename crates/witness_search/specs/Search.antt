-- The search for operands that make a bit 0, or 1 (02, request 7). Cited by contracts of inner functions alone: no public contract rests on it.
--   rows_of w o          the two vectors as rows of width w
--   lowest_cleared m     a mask without its lowest set bit;   lowest_as m v b   the value with that bit known as b
--   first_case o b, second_case o b   the operands with the lowest unknown bit of the first vector, or of the second, known as b
--   case_of o b          the first of these, or the second where the first vector has no unknown bit
--   UnknownLeft o       some bit of the two is unknown
--   may_be found d       an output bit leaves d possible: 0 unless it is known as 1, 1 unless it is known as 0
--   Asked kind w k o    add, sub or mul of well-formed vectors of one width, and a bit below it
--   Sought kind w k d o   and some choice of operands that they cover makes the bit d
--   Narrower kind w k d o r   r covers no other choices than o, the same is sought of it, and the sum of its masks is less, so that the search ends
use Rattle.std.specs.Prelude.{◌≡◌, Bool, true, cond, List, [], ◌∷◌, ℕ, ◌+◌, ◌-◌, ◌*◌, ◌^◌, ◌<◌, T, eqb}
use Rattle.std.specs.Int.Bits.{bit_and, bit_or}
use Rattle.std.specs.Int.Count.{count_trailing_zeros}
use Rattle.vectors.specs.Row.{Row, row_of}
use Rattle.vectors.specs.Choice.{Chosen}
use Rattle.vectors.specs.Best.{may}
use Rattle.vectors.specs.declared.OutputBit.{OutputBit}
use Rattle.vectors.specs.declared.OutputBit.TheVariants.{Zero, One, Unknown}
use Rattle.columns.specs.Formed.{Formed}
use Rattle.witness_search.specs.declared.Operands.{Operands}
use Rattle.witness_search.specs.Witness.{add_sub_mul, plain_of}

abbrev pub rows_of : ℕ → Operands → List Row
rows_of w o = row_of w o.a ∷ row_of w o.b ∷ []

abbrev pub lowest_cleared : ℕ → ℕ
lowest_cleared m = bit_and m (m - 1)

abbrev pub lowest_as : ℕ → ℕ → ℕ → ℕ
lowest_as m v b = bit_or v (b * 2 ^ count_trailing_zeros 32 m)

abbrev pub first_case : Operands → ℕ → Operands
first_case o b = record { a = record { mask = lowest_cleared o.a.mask; value = lowest_as o.a.mask o.a.value b }; b = o.b }

abbrev pub second_case : Operands → ℕ → Operands
second_case o b = record { a = o.a; b = record { mask = lowest_cleared o.b.mask; value = lowest_as o.b.mask o.b.value b } }

unfoldable pub case_of : Operands → ℕ → Operands
case_of o b = cond (eqb o.a.mask 0) (second_case o b) (first_case o b)

abbrev pub UnknownLeft : Operands → Type 0
UnknownLeft o = o.a.mask ≡ 0 → o.b.mask ≡ 0 → ⊥

abbrev pub may_be : OutputBit → ℕ → Bool
may_be Zero d = eqb d 0
may_be One d = eqb d 1
may_be Unknown d = true

pub record Asked (kind w k : ℕ) (o : Operands) : Type 0 where
  pub kind_is : T (add_sub_mul kind)
  pub formed : Formed w o.a.mask o.a.value o.b.mask o.b.value
  pub below : k < w

pub record Sought (kind w k d : ℕ) (o : Operands) : Type 0 where
  pub asked : Asked kind w k o
  pub value : d < 2
  pub possible : T (may (plain_of kind w) (rows_of w o) d k)

pub record Narrower (kind w k d : ℕ) (o r : Operands) : Type 0 where
  pub sought : Sought kind w k d r
  pub inside : (ns : List ℕ) → Chosen (rows_of w r) ns → Chosen (rows_of w o) ns
  pub less : r.a.mask + r.b.mask < o.a.mask + o.b.mask
