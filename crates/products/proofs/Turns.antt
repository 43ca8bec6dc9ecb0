-- A turn of the loop that adds up a column sum, a set bit of the first factor a turn. Assumes nothing.
--   Left k a b rest z          z is the column sum at a less that at rest, the bits of a that are left
--   left-start, left_end       before the first turn and after the last
--   place-within, turn-fits    what a turn asks
--   turn                       what it leaves
use mathlib.Core.Path.{◌≡◌, sym, ap, subst, ◌∙◌}
use mathlib.Core.Logic.{◌≢◌}
use Prim.Native.Nat.{ℕ, ◌+◌, ◌-◌, ◌*◌, ◌^◌, ◌≤◌, ◌<◌}
use native.Mathlib.Nat.{lt_of_lt_of_le}
use native.Mathlib.Omega.{arith}
use lib.Bits.{bit_and, and_mask}
use lib.Count.{count_trailing_zeros}
use lib.IntN.{ℤ, pos, ◌+ℤ◌, ◌-ℤ◌}
use lib.Pow.{pow_mono}
use mir.Val.{to_z, of_z, SFits}
use mir.Syntax.{w64}
use Rattle.bits.specs.Bit.{bit}
use Rattle.bits.proofs.Bits.{bit-lt}
use Rattle.bits.proofs.Shifts.{bit-mod}
use Rattle.products.specs.ColumnSum.{terms_below, one_pairs, column_sum}
use Rattle.products.specs.Factors.{low_row}
use Rattle.products.proofs.Columns.{product-parts, terms-bits, pairs-bits}
use Rattle.bits.proofs.LowestBit.{lowest, lowest-below, clear_at, clear-other}
use Rattle.products.proofs.Flips.{AgreeBut, flip-terms, flip-pairs}
use Rattle.products.proofs.Integers.{Minus, minus-as, minus_pos, minus-unique}
use Rattle.products.proofs.Floors.{column-minus}
use Rattle.products.proofs.Held.{add-fits, add-held}
use Rattle.products.proofs.Sizes.{row-size, digit-size, terms-size, pairs-size}

abbrev pub Left : ℕ → ℕ → ℕ → ℕ → ℤ → Type 0
Left k a b rest z = Minus z (terms_below k a b + 2 ^ k * one_pairs k rest b) (2 ^ k * one_pairs k a b + terms_below k rest b)

-- the lowest k + 1 bits are left
pub left-start : (k a b ones : ℕ) → ones ≡ 2 ^ (k + 1) - 1 → Left k a b (bit_and a ones) (pos 0)
left-start k a b ones e =
    omega (arith, terms-bits k (bit_and a ones) a b same, ap (λ (x : ℕ). 2 ^ k * x) (pairs-bits k (bit_and a ones) a b same))
  where
    same : (j : ℕ) → j ≤ k → bit (bit_and a ones) j ≡ bit a j
    same j l = ap (λ (x : ℕ). bit x j) (ap (bit_and a) e ∙ and_mask a (k + 1)) ∙ bit-mod a (k + 1) j (omega arith)

-- none is left
pub left_end : (k a b rest : ℕ) (z : ℤ) → rest ≡ 0 → Left k a b rest z → z ≡ column_sum k a b
left_end k a b rest z e m =
    let (x, f) = product-parts k 0 b in
    minus-unique z (column_sum k a b) _ _ _ _ (subst (λ (n : ℕ). Left k a b n z) e m) (column-minus k a b) (omega (arith, f))

-- a turn adds the row of the lowest bit that is left, and clears that bit
module _ (k rest : ℕ) (hk : k < 32) (some : rest ≢ 0) (below : rest < 2 ^ (k + 1)) where
  abbrev i : ℕ
  i = count_trailing_zeros 32 rest

  abbrev next : ℕ
  next = bit_and rest (rest - 1)

  wide : rest < 2 ^ 32
  wide = lt_of_lt_of_le below (pow_mono {i = k + 1} {j = 32} (omega arith))

  pub place-within : i ≤ k
  place-within = omega (arith, lowest-below 32 (k + 1) rest some wide below)

  agree : AgreeBut k i next rest
  agree j l d = clear-other 32 rest some wide j d

  module _ (a b s : ℕ) (y : ℤ) (m : Left k a b rest (to_z w64 s)) (e : y ≡ pos (low_row k i b) -ℤ pos (2 ^ k * bit b (k - i))) where
    abbrev sum : ℤ
    sum = to_z w64 s +ℤ to_z w64 (of_z w64 y)

    row-minus : Minus y (low_row k i b) (2 ^ k * bit b (k - i))
    row-minus = subst (λ (z : ℤ). Minus z (low_row k i b) (2 ^ k * bit b (k - i))) (sym e) (minus_pos (low_row k i b) (2 ^ k * bit b (k - i)))

    terms-fit : terms_below k a b + 2 ^ k * one_pairs k rest b + low_row k i b < 2 ^ 63
    terms-fit = omega (arith, terms-size k a b hk, pairs-size k rest b hk, row-size k i b place-within hk)

    pairs-fit : 2 ^ k * one_pairs k a b + terms_below k rest b + 2 ^ k * bit b (k - i) < 2 ^ 63
    pairs-fit = omega (arith, pairs-size k a b hk, terms-size k rest b hk, digit-size k (bit b (k - i)) (bit-lt b (k - i)) hk)

    pub turn-fits : SFits w64 sum
    turn-fits = add-fits s y _ _ _ _ m row-minus terms-fit pairs-fit

    pub turn : Left k a b next (to_z w64 (of_z w64 sum))
    turn =
        let off = clear_at 32 rest some wide in
        let on = (lowest 32 rest some wide).1 in
        minus-as (to_z w64 (of_z w64 sum)) _ _ _ _ (add-held s y _ _ _ _ m row-minus terms-fit pairs-fit)
        (omega (arith, flip-terms k next rest b i place-within agree off on, flip-pairs k next rest b i place-within agree off on))
