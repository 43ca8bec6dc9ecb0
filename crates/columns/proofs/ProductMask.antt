-- The mask of a product: 1 where two covered products differ, 0 where all agree; its value is then the plain product's. Assumes nothing.
use Rattle.std.proofs.Common.{◌≡◌, ℕ, ◌*◌, ◌^◌, ◌<◌, ◌≢◌, List, [], ◌∷◌, sym, ◌∙◌, subst, inl, inr, arith}
use Rattle.bits.specs.Bit.{bit}
use Rattle.bits.proofs.Bits.{bit-cases}
use Rattle.bits.proofs.Shifts.{bit-mod}
use Rattle.vectors.specs.Row.{row, WellFormed, Covers}
use Rattle.vectors.specs.Choice.{Chosen}
use Rattle.vectors.proofs.Rows.{covers-value}
use Rattle.vectors.proofs.Bests.{ByBits, best-by-bits}
use Rattle.operations.specs.Arithmetic.{op_mul}
use Rattle.operations.specs.Result.{result_of}
use Rattle.columns.specs.Settled.{product_of}

module _ (w ma va mb vb : ℕ) where
  -- a choice of two factors has their product, cut to the width
  plain : List ℕ → ℕ
  plain ns = op_mul.plain w (w ∷ w ∷ []) 0 ns

  told : ByBits w plain (row w ma va ∷ row w mb vb ∷ []) (product_of w ma va mb vb)
  unfolding result_of plain
  told = best-by-bits w _ (row w ma va ∷ row w mb vb ∷ [])

  pub product-formed : WellFormed (product_of w ma va mb vb)
  product-formed = told.formed

  pub product-width : (product_of w ma va mb vb).width ≡ w
  product-width = told.width_is

  pub product-below : (product_of w ma va mb vb).mask < 2 ^ w
  product-below = subst (λ (n : ℕ). (product_of w ma va mb vb).mask < 2 ^ n) product-width product-formed.mask_below

  module _ (k : ℕ) (h : k < w) where
    -- a bit of the result is that of the exact product
    plain-bit : (a b : ℕ) → bit (plain (a ∷ b ∷ [])) k ≡ bit (a * b) k
    unfolding plain op_mul
    plain-bit a b = bit-mod (a * b) w k h

    pub known-bit : bit (product_of w ma va mb vb).mask k ≡ 0 → (a b : ℕ) → Covers (row w ma va) a → Covers (row w mb vb) b
        → bit (a * b) k ≡ bit (product_of w ma va mb vb).value k
    known-bit e a b ca cb = sym (plain-bit a b) ∙ told.known k h e (a ∷ b ∷ []) (ca, (cb, tt))

    pub product-varies : (a b x y : ℕ) → Covers (row w ma va) a → Covers (row w mb vb) b → Covers (row w ma va) x → Covers (row w mb vb) y
        → bit (a * b) k ≢ bit (x * y) k → bit (product_of w ma va mb vb).mask k ≡ 1
    product-varies a b x y ca cb cx cy d = elim (bit-cases (product_of w ma va mb vb).mask k) [
      | inr e ↦ e
      | inl e ↦ absurd (d (known-bit e a b ca cb ∙ sym (known-bit e x y cx cy)))
    ]

    pub product-steady : (n : ℕ) → ((a b : ℕ) → Covers (row w ma va) a → Covers (row w mb vb) b → bit (a * b) k ≡ n) → bit (product_of w ma va mb vb).mask k ≡ 0
    product-steady n all = elim (bit-cases (product_of w ma va mb vb).mask k) [
      | inl e ↦ e
      | inr e ↦ let (p, q) = told.unknown k h e in absurd (apart p.numbers q.numbers p.chosen q.chosen p.gives q.gives)
    ]
      where
        at : (ns : List ℕ) → Chosen (row w ma va ∷ row w mb vb ∷ []) ns → bit (plain ns) k ≡ n
        at [] c = absurd c
        at (a ∷ []) c = absurd c.1
        at (a ∷ b ∷ []) c = plain-bit a b ∙ all a b c.0 c.1.0
        at (a ∷ b ∷ d ∷ ns) c = absurd c.1.1

        apart : (ms ns : List ℕ) → Chosen (row w ma va ∷ row w mb vb ∷ []) ms → Chosen (row w ma va ∷ row w mb vb ∷ []) ns
            → bit (plain ms) k ≡ 0 → bit (plain ns) k ≡ 1 → ⊥
        apart ms ns c d e f = let x = at ms c in let y = at ns d in omega arith

    -- the value is a covered product too
    pub product_value : WellFormed (row w ma va) → WellFormed (row w mb vb) → bit (product_of w ma va mb vb).mask k ≡ 0
        → bit (product_of w ma va mb vb).value k ≡ bit (va * vb) k
    product_value F G e = sym (known-bit e va vb (covers-value (row w ma va) F) (covers-value (row w mb vb) G))
