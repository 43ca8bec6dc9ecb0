-- The column sum as an integer: its order, its floor, and the bit that the floor gives. Assumes nothing.
use mathlib.Core.Path.{◌≡◌, refl, sym, ap, subst, ◌∙◌}
use mathlib.Core.Bool.{Bool, true, false, cond}
use Prim.Native.Nat.{ℕ, ◌*◌, ◌/◌, ◌^◌}
use lib.Dec.{eqb}
use lib.IntN.{ℤ, pos, negsuc}
use lib.Pow.{pow_pos}
use lib.Signed.{◌≤ℤ◌}
use borrow.Author.Tests.{eq-eqb, ne_eqb}
use Rattle.bits.specs.Bit.{bit}
use Rattle.vectors.specs.declared.OutputBit.TheVariants.{Zero, One, Unknown}
use Rattle.products.specs.ColumnSum.{terms_below, one_pairs, column_sum, column_floor, same_integer, mod_two, bit_of_floors}
use Rattle.products.proofs.Integers.{Minus, minus_pos, minus-unique, minus-same, minus-le, le-minus, minus-floor, minus-mod}
use Rattle.products.proofs.Columns.{product-bit}
use Rattle.products.proofs.Flips.{SumLe}
use Rattle.products.proofs.FloorSteps.{SameFloor}

pub column-minus : (k a b : ℕ) → Minus (column_sum k a b) (terms_below k a b) (2 ^ k * one_pairs k a b)
unfolding column_sum
column-minus k a b = minus_pos (terms_below k a b) (2 ^ k * one_pairs k a b)

pub floor-minus : (k a b : ℕ) → Minus (column_floor k a b) (terms_below k a b / 2 ^ k) (one_pairs k a b)
unfolding column_floor
floor-minus k a b = minus-floor (column_sum k a b) (terms_below k a b) (2 ^ k) (one_pairs k a b) (pow_pos k) (column-minus k a b)

pub le-of-sums : (k a b c d : ℕ) → SumLe k a b c d → column_sum k a b ≤ℤ column_sum k c d
le-of-sums k a b c d h = minus-le (column_sum k a b) (column_sum k c d) _ _ _ _ (column-minus k a b) (column-minus k c d) h

pub sums-of-le : (k a b c d : ℕ) → column_sum k a b ≤ℤ column_sum k c d → SumLe k a b c d
sums-of-le k a b c d h = le-minus (column_sum k a b) (column_sum k c d) _ _ _ _ (column-minus k a b) (column-minus k c d) h

pub floor-of-same : (k a b c d : ℕ) → SameFloor k a b c d → column_floor k a b ≡ column_floor k c d
floor-of-same k a b c d e = minus-unique (column_floor k a b) (column_floor k c d) _ _ _ _ (floor-minus k a b) (floor-minus k c d) e

pub same-of-floor : (k a b c d : ℕ) → column_floor k a b ≡ column_floor k c d → SameFloor k a b c d
same-of-floor k a b c d e =
    minus-same (column_floor k c d) _ _ _ _
    (subst (λ (z : ℤ). Minus z (terms_below k a b / 2 ^ k) (one_pairs k a b)) e (floor-minus k a b)) (floor-minus k c d)

-- bit k of the product is the floor modulo 2
pub floor-bit : (k a b : ℕ) → mod_two (column_floor k a b) ≡ bit (a * b) k
floor-bit k a b = minus-mod (column_floor k a b) _ _ (floor-minus k a b) ∙ sym (product-bit k a b)

-- ---- what two floors settle

same-integer : (z : ℤ) → same_integer z z ≡ true
same-integer (pos n) = eq-eqb n n refl
same-integer (negsuc n) = eq-eqb n n refl

other-integer : (y z : ℤ) → (y ≡ z → ⊥) → same_integer y z ≡ false
other-integer (pos m) (pos n) h = ne_eqb m n (λ e. h (ap pos e))
other-integer (pos m) (negsuc n) h = refl
other-integer (negsuc m) (pos n) h = refl
other-integer (negsuc m) (negsuc n) h = ne_eqb m n (λ e. h (ap negsuc e))

pub same-floors : (y z : ℤ) → y ≡ z → bit_of_floors y z ≡ cond (eqb (mod_two y) 1) One Zero
unfolding bit_of_floors
same-floors y z e =
    ap (λ (t : Bool). cond t (cond (eqb (mod_two y) 1) One Zero) Unknown) (ap (same_integer y) (sym e) ∙ same-integer y)

pub other-floors : (y z : ℤ) → (y ≡ z → ⊥) → bit_of_floors y z ≡ Unknown
unfolding bit_of_floors
other-floors y z h = ap (λ (t : Bool). cond t (cond (eqb (mod_two y) 1) One Zero) Unknown) (other-integer y z h)
