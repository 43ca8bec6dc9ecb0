-- The rule of 01, "Products", as laws about the best result, for every width. Assumes nothing.
--   two-unknown-pairs   "Two column pairs unknown on both sides make bit k X."
--   bit-by-floors       the bit is known exactly if the floors of the least and the greatest column sum agree, and is then that floor modulo 2
-- Where the extremes are reached is said by the laws of ExtremeFactors.antt.
use mathlib.Core.Path.{◌≡◌, sym, ◌∙◌}
use mathlib.Core.Logic.{◌≢◌}
use mathlib.Core.List.{[], ◌∷◌}
use Prim.Native.Nat.{ℕ, ◌+◌, ◌-◌, ◌*◌, ◌/◌, ◌^◌, ◌≤◌, ◌<◌}
use native.Mathlib.Nat.{div-add-mod', mod-lt, lt_of_mul-lt-mul_right}
use native.Mathlib.Omega.{arith}
use lib.IntN.{ℤ_discrete}
use lib.Pow.{pow_pos}
use Rattle.bits.specs.Bit.{bit}
use Rattle.vectors.specs.declared.OutputBit.TheVariants.{Unknown}
use Rattle.vectors.specs.Row.{Row, row, WellFormed, Covers}
use Rattle.vectors.proofs.Rows.{covers-value}
use Rattle.operations.specs.Arithmetic.{op_mul}
use Rattle.operations.specs.Result.{result_of}
use Rattle.vectors.specs.OutputBits.{output_bit}
use Rattle.products.specs.ColumnSum.{terms_below, one_pairs, column_floor, mod_two, bit_of_floors}
use Rattle.products.specs.Rule.{DoublyUnknown, Least, Greatest}
use Rattle.products.proofs.TwoPairs.{theorem-4}
use Rattle.products.proofs.SetBits.{set_other, set-covers}
use Rattle.products.proofs.Flips.{SumLe}
use Rattle.products.proofs.FloorSteps.{same_bit, floors-differ}
use Rattle.products.proofs.Floors.{sums-of-le, same-of-floor, floor-of-same, floor-bit, same-floors, other-floors}
use Rattle.products.proofs.Outputs.{product-unknown, product-known}

-- ---- two pairs unknown on both sides

two-set : (r : Row) (p q s t : ℕ) → WellFormed r → p < r.width → q < r.width → p ≢ q → bit r.mask p ≡ 1 → bit r.mask q ≡ 1 → s < 2 → t < 2
    → Covers r (r.value + s * 2 ^ p + t * 2 ^ q)
two-set r p q s t F lp lq d up uq hs ht =
    set-covers (r.value + s * 2 ^ p) q t (set_other r.value p s (F.apart p up) hs q (λ e. d (sym e)) ∙ F.apart q uq) ht r lq uq
    (set-covers r.value p s (F.apart p up) hs r lp up (covers-value r F))

pub two-unknown-pairs : (w ma va mb vb k i j : ℕ) → k < w → WellFormed (row w ma va) → WellFormed (row w mb vb) → i ≢ j → DoublyUnknown k ma mb i → DoublyUnknown k ma mb j
    → output_bit (result_of op_mul w 0 (row w ma va ∷ row w mb vb ∷ [])) k ≡ Unknown
two-unknown-pairs w ma va mb vb k i j h F G d x y =
    let lx = x.within in
    let ly = y.within in
    let t = theorem-4 k i j (k - j) (k - i) va vb (omega arith) (omega arith) (F.apart i x.first) (F.apart j y.first) (G.apart (k - j) y.second) (G.apart (k - i) x.second) in
    product-unknown w ma va mb vb k h va vb (covers-value (row w ma va) F) (covers-value (row w mb vb) G) (
      va + t.0 * 2 ^ i + t.1 * 2 ^ j,
      vb + t.2 * 2 ^ (k - j) + t.3 * 2 ^ (k - i),
      two-set (row w ma va) i j t.0 t.1 F (omega arith) (omega arith) d x.first y.first t.4 t.5,
      two-set (row w mb vb) (k - j) (k - i) t.2 t.3 G (omega arith) (omega arith) (λ e. d (omega (arith, e))) y.second x.second t.6 t.7,
      t.8,
    )

-- ---- by the floors of the extremes

floor-le : (k a b c d : ℕ) → SumLe k a b c d → terms_below k a b / 2 ^ k + one_pairs k c d ≤ terms_below k c d / 2 ^ k + one_pairs k a b
floor-le k a b c d h =
    let lt : terms_below k a b / 2 ^ k + one_pairs k c d < terms_below k c d / 2 ^ k + one_pairs k a b + 1 =
    lt_of_mul-lt-mul_right (2 ^ k) {m = terms_below k a b / 2 ^ k + one_pairs k c d} {n = terms_below k c d / 2 ^ k + one_pairs k a b + 1}
    (omega (arith, h, div-add-mod' (terms_below k a b) (2 ^ k), div-add-mod' (terms_below k c d) (2 ^ k), mod-lt (terms_below k c d) (pow_pos k))) in
    omega arith

pub bit-by-floors : (w ma va mb vb k c d e f : ℕ) → k < w → WellFormed (row w ma va) → WellFormed (row w mb vb)
    → Least k (row w ma va) (row w mb vb) c d → Greatest k (row w ma va) (row w mb vb) e f
    → output_bit (result_of op_mul w 0 (row w ma va ∷ row w mb vb ∷ [])) k ≡ bit_of_floors (column_floor k c d) (column_floor k e f)
bit-by-floors w ma va mb vb k c d e f h F G L U = go (ℤ_discrete (column_floor k c d) (column_floor k e f))
  where
    -- every covered pair has the floor of the extremes
    all : column_floor k c d ≡ column_floor k e f → (a b : ℕ) → Covers (row w ma va) a → Covers (row w mb vb) b → bit (a * b) k ≡ mod_two (column_floor k c d)
    all s a b ca cb =
        same_bit k a b c d
        (omega (
          arith,
          same-of-floor k c d e f s,
          floor-le k c d a b (sums-of-le k c d a b (L.least a b ca cb)),
          floor-le k a b e f (sums-of-le k a b e f (U.greatest a b ca cb)),
        ))
        ∙ sym (floor-bit k c d)

    go : Dec (column_floor k c d ≡ column_floor k e f)
        → output_bit (result_of op_mul w 0 (row w ma va ∷ row w mb vb ∷ [])) k ≡ bit_of_floors (column_floor k c d) (column_floor k e f)
    go (yes s) = product-known w ma va mb vb k h F G (mod_two (column_floor k c d)) (all s) ∙ sym (same-floors (column_floor k c d) (column_floor k e f) s)
    go (no n) =
        product-unknown w ma va mb vb k h c d L.covers_first L.covers_second
        (floors-differ k (row w ma va) (row w mb vb) h h c d e f L.covers_first L.covers_second U.covers_first U.covers_second
        (λ s. n (floor-of-same k c d e f s)))
        ∙ sym (other-floors (column_floor k c d) (column_floor k e f) n)
