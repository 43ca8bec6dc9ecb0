-- The test `names` means that the address row covers the number; cells of one width. Assumes nothing.
--   Cell w c   c is a well-formed vector of width w
use mathlib.Core.Path.{◌≡◌, refl, sym, ap, ◌∙◌, subst}
use mathlib.Core.Logic.{inl, inr}
use mathlib.Core.List.{List, [], ◌∷◌}
use Prim.Native.Nat.{ℕ, zero, suc, ◌<◌, max}
use native.Mathlib.Omega.{arith}
use lib.Dec.{T, eqb→eq}
use lib.ListN.{get_or}
use lib.Bits.{bit_or, or_lt}
use lib.Pow.{pow_pos}
use Rattle.bits.specs.Bit.{bit}
use Rattle.bits.proofs.Bits.{bit-lt, bit-cases, bit-or, bit-above, bit-ext, bit-of-zero}
use Rattle.bits.proofs.Bools.{eq→eqb}
use Rattle.bits.proofs.Numbers.{below-of-bits}
use Rattle.vectors.specs.Lists.{All}
use Rattle.vectors.specs.Row.{Row, WellFormed, Covers}
use Rattle.vectors.specs.Hull.{Hull}
use Rattle.vectors.proofs.Rows.{covers-value, covers-top}
use Rattle.vectors.proofs.Lists.{all-imp}
use Rattle.vectors.proofs.Hulls.{Inhabited, hull-row}
use Rattle.lookups.specs.Lookup.{greatest, names, zero_row}

-- ---- the test of an address

module _ (a : Row) (A : WellFormed a) (i : ℕ) where
  pub names-covered : Covers a i → T (names a i)
  unfolding names
  names-covered c =
      eq→eqb (bit-ext a.width (bit_or i a.mask) (greatest a) (or_lt a.width i a.mask c.below A.mask_below) (covers-top a A).below
      (λ k h. bit-or i a.mask k ∙ at k h ∙ sym (bit-or a.value a.mask k)))
    where
      at : (k : ℕ) → k < a.width → max (bit i k) (bit a.mask k) ≡ max (bit a.value k) (bit a.mask k)
      at k h = elim (bit-cases a.mask k) [
        | inl e ↦ ap (λ (x : ℕ). max x (bit a.mask k)) (c.agrees k h e)
        | inr e ↦ let x = bit-lt i k in let y = bit-lt a.value k in omega arith
      ]

  pub covered-named : T (names a i) → Covers a i
  unfolding names
  covered-named t =
      record {
        below = below-of-bits a.width i (λ k h. let z = bit-above a.width (greatest a) k (covers-top a A).below h in let y = at k in omega arith);
        agrees = λ k h e. let y = at k in let z = bit-or a.value a.mask k in omega arith;
      }
    where
      at : (k : ℕ) → max (bit i k) (bit a.mask k) ≡ bit (greatest a) k
      at k = sym (bit-or i a.mask k) ∙ ap (λ (x : ℕ). bit x k) (eqb→eq (bit_or i a.mask) (greatest a) t)

-- ---- cells of one width

pub record Cell (w : ℕ) (c : Row) : Type 0 where
  pub width_is : c.width ≡ w
  pub formed : WellFormed c

pub hull-cell : (w : ℕ) (c : Row) → Cell w c → Hull w (Covers c) c
hull-cell w c C = subst (λ (x : ℕ). Hull x (Covers c) c) C.width_is (hull-row c C.formed)

pub some-cell : (w : ℕ) (c : Row) → Cell w c → Inhabited (Covers c)
some-cell w c C = record { member = c.value; is_inside = covers-value c C.formed }

pub cells-formed : (w : ℕ) (cells : List Row) → All (Cell w) cells → All WellFormed cells
cells-formed w = all-imp (λ c C. C.formed)

pub zero-cell : (w : ℕ) → Cell w (zero_row w)
zero-cell w = record { width_is = refl; formed = record { mask_below = pow_pos w; value_below = pow_pos w; apart = λ k e. bit-of-zero k } }

pub zero-only : (w n : ℕ) → Covers (zero_row w) n → n ≡ 0
zero-only w n c = bit-ext w n 0 c.below (pow_pos w) (λ k h. c.agrees k h (bit-of-zero k))

pub cell_at : (w : ℕ) (cells : List Row) → All (Cell w) cells → (j : ℕ) → Cell w (get_or cells j (zero_row w))
cell_at w [] C j = zero-cell w
cell_at w (c ∷ cells) C zero = C.0
cell_at w (c ∷ cells) C (suc j) = cell_at w cells C.1 j
