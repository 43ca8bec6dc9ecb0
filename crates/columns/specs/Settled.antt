-- What a word says of the columns of a product (01, "Abstract result": X where two choices of covered operands disagree). Cited by the contracts of
-- inner functions alone: what `product_bit_unchecked` and `mul` promise does not lean on them.
--   product_of w ma va mb vb        the product's vector at width w
--   ColumnIs w ma va mb vb k b     if column k is below the width, its mask bit is b: 1 for unknown, 0 for known
--   Marks P n                      every column that is set in n has the property P
--   AllUnknown ma va mb vb n       every column that is set in n is unknown, whatever the width
--   AllKnown ma va mb vb n         every column that is set in n is known
--   KnownBelow ma va mb vb n       every column below n is known
--   KnownFrom ma va mb vb n        every column from n on is known
--   UnknownExactly ma va mb vb n   a column is set in n exactly where it is unknown
--   SettledIn ma va mb vb n m      the same for the columns that are set in m
use Rattle.std.specs.Prelude.{◌≡◌, ℕ, ◌<◌, ◌≤◌, [], ◌∷◌}
use Rattle.bits.specs.Bit.{bit}
use Rattle.vectors.specs.Row.{Row, row}
use Rattle.operations.specs.Arithmetic.{op_mul}
use Rattle.operations.specs.Result.{result_of}
use Rattle.columns.specs.Formed.{Formed}

abbrev pub product_of : ℕ → ℕ → ℕ → ℕ → ℕ → Row
product_of w ma va mb vb = result_of op_mul w 0 (row w ma va ∷ row w mb vb ∷ [])

abbrev pub ColumnIs : ℕ → ℕ → ℕ → ℕ → ℕ → ℕ → ℕ → Type 0
ColumnIs w ma va mb vb k b = k < w → bit (product_of w ma va mb vb).mask k ≡ b

abbrev pub Marks : (ℕ → Type 0) → ℕ → Type 0
Marks P n = (k : ℕ) → bit n k ≡ 1 → P k

abbrev pub AllUnknown : ℕ → ℕ → ℕ → ℕ → ℕ → Type 0
AllUnknown ma va mb vb n = (w : ℕ) → Formed w ma va mb vb → Marks (λ k. ColumnIs w ma va mb vb k 1) n

abbrev pub AllKnown : ℕ → ℕ → ℕ → ℕ → ℕ → Type 0
AllKnown ma va mb vb n = (w : ℕ) → Formed w ma va mb vb → Marks (λ k. ColumnIs w ma va mb vb k 0) n

abbrev pub KnownBelow : ℕ → ℕ → ℕ → ℕ → ℕ → Type 0
KnownBelow ma va mb vb n = (w : ℕ) → Formed w ma va mb vb → (k : ℕ) → k < n → ColumnIs w ma va mb vb k 0

abbrev pub KnownFrom : ℕ → ℕ → ℕ → ℕ → ℕ → Type 0
KnownFrom ma va mb vb n = (w : ℕ) → Formed w ma va mb vb → (k : ℕ) → n ≤ k → ColumnIs w ma va mb vb k 0

abbrev pub UnknownExactly : ℕ → ℕ → ℕ → ℕ → ℕ → Type 0
UnknownExactly ma va mb vb n = (w : ℕ) → Formed w ma va mb vb → (k : ℕ) → ColumnIs w ma va mb vb k (bit n k)

abbrev pub SettledIn : ℕ → ℕ → ℕ → ℕ → ℕ → ℕ → Type 0
SettledIn ma va mb vb n m = (w : ℕ) → Formed w ma va mb vb → Marks (λ k. ColumnIs w ma va mb vb k (bit n k)) m
