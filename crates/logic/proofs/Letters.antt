-- not, and, or, xor by their tables over the letters 0, 1, X, each computed from `best` at width 1, and so for every width. Assumes nothing.
--   Letter m v   a known 0, a known 1 or an unknown bit, by its mask bit and its value bit
use Rattle.std.proofs.Common.{◌≡◌, ℕ, ◌-◌, ◌^◌, ◌<◌, min, max, List, [], ◌∷◌, get_or, sym, refl, ◌∙◌, ap₂, inl, inr}
use lib.Bits.{differ}
use Rattle.bits.specs.Bit.{bit, number}
use Rattle.bits.specs.Below.{some_below, all_below}
use Rattle.bits.proofs.Bits.{bit-cases}
use Rattle.vectors.specs.Row.{Row, row, WellFormed}
use Rattle.vectors.specs.Choice.{coversb, some_choice}
use Rattle.vectors.specs.Best.{may, best}
use Rattle.logic.proofs.Bitwise.{bits_at-get_or, bitwise-best}

pub data Letter : ℕ → ℕ → Type 0 where
  as0 : Letter 0 0
  as1 : Letter 0 1
  as_x : Letter 1 0

pub letter : (r : Row) → WellFormed r → (k : ℕ) → Letter (bit r.mask k) (bit r.value k)
letter r F k =
    elim (bit-cases r.mask k) [
      | inr e ↦ rw (e, F.apart k e) as_x
      | inl e ↦ elim (bit-cases r.value k) [ inl z ↦ rw (e, z) as0 | inr z ↦ rw (e, z) as1 ]
    ]

-- ---- the tables

abbrev pub both : (ℕ → ℕ → ℕ) → List ℕ → ℕ
both f bs = f (get_or bs 0 0) (get_or bs 1 0)

pub not_table : (m v : ℕ) → Letter m v → row 1 m (differ 1 (max v m)) ≡ best 1 (λ bs. 1 - get_or bs 0 0) (row 1 m v ∷ [])
unfolding best may some_choice coversb some_below all_below number bit
not_table m v as0 = refl
not_table m v as1 = refl
not_table m v as_x = refl

pub and-table : (ma va mb vb : ℕ) → Letter ma va → Letter mb vb
    → row 1 (differ (min (max va ma) (max vb mb)) (min va vb)) (min va vb) ≡ best 1 (both min) (row 1 ma va ∷ row 1 mb vb ∷ [])
unfolding best may some_choice coversb some_below all_below number bit
and-table ma va mb vb as0 as0 = refl
and-table ma va mb vb as0 as1 = refl
and-table ma va mb vb as0 as_x = refl
and-table ma va mb vb as1 as0 = refl
and-table ma va mb vb as1 as1 = refl
and-table ma va mb vb as1 as_x = refl
and-table ma va mb vb as_x as0 = refl
and-table ma va mb vb as_x as1 = refl
and-table ma va mb vb as_x as_x = refl

pub or-table : (ma va mb vb : ℕ) → Letter ma va → Letter mb vb
    → row 1 (differ (max (max va vb) (max ma mb)) (max va vb)) (max va vb) ≡ best 1 (both max) (row 1 ma va ∷ row 1 mb vb ∷ [])
unfolding best may some_choice coversb some_below all_below number bit
or-table ma va mb vb as0 as0 = refl
or-table ma va mb vb as0 as1 = refl
or-table ma va mb vb as0 as_x = refl
or-table ma va mb vb as1 as0 = refl
or-table ma va mb vb as1 as1 = refl
or-table ma va mb vb as1 as_x = refl
or-table ma va mb vb as_x as0 = refl
or-table ma va mb vb as_x as1 = refl
or-table ma va mb vb as_x as_x = refl

pub xor-table : (ma va mb vb : ℕ) → Letter ma va → Letter mb vb
    → row 1 (max ma mb) (min (differ va vb) (1 - max ma mb)) ≡ best 1 (both differ) (row 1 ma va ∷ row 1 mb vb ∷ [])
unfolding best may some_choice coversb some_below all_below number bit
xor-table ma va mb vb as0 as0 = refl
xor-table ma va mb vb as0 as1 = refl
xor-table ma va mb vb as0 as_x = refl
xor-table ma va mb vb as1 as0 = refl
xor-table ma va mb vb as1 as1 = refl
xor-table ma va mb vb as1 as_x = refl
xor-table ma va mb vb as_x as0 = refl
xor-table ma va mb vb as_x as1 = refl
xor-table ma va mb vb as_x as_x = refl

-- ---- the words

-- a word made of the four words of two rows bit by bit
abbrev pub Word : (ℕ → ℕ → ℕ → ℕ → ℕ) → ℕ → Row → Row → ℕ → Type 0
Word g w a b n = (n < 2 ^ w) × ((k : ℕ) → k < w → bit n k ≡ g (bit a.mask k) (bit a.value k) (bit b.mask k) (bit b.value k))

pub two-rows : (w : ℕ) (f F : ℕ → ℕ → ℕ) (g h : ℕ → ℕ → ℕ → ℕ → ℕ) (a b : Row) (m v : ℕ) → WellFormed a → WellFormed b → a.width ≡ w → b.width ≡ w
    → ((x y k : ℕ) → bit (f x y) k ≡ F (bit x k) (bit y k))
    → ((ma va mb vb : ℕ) → Letter ma va → Letter mb vb → row 1 (g ma va mb vb) (h ma va mb vb) ≡ best 1 (both F) (row 1 ma va ∷ row 1 mb vb ∷ []))
    → Word g w a b m → Word h w a b v → row w m v ≡ best w (both f) (a ∷ b ∷ [])
two-rows w f F g h a b m v A B wa wb plain table M N =
    bitwise-best w (both f) (both F) (a ∷ b ∷ []) (row w m v) (A, (B, tt)) (record {
      width_is = refl;
      widths = (wa, (wb, tt));
      mask_below = M.0;
      value_below = N.0;
      plain = λ k l ns c. plain (get_or ns 0 0) (get_or ns 1 0) k ∙ ap₂ F (sym (bits_at-get_or k ns 0)) (sym (bits_at-get_or k ns 1));
      each_bit = λ k l. ap₂ (row 1) (M.1 k l) (N.1 k l) ∙ table _ _ _ _ (letter a A k) (letter b B k);
    })
