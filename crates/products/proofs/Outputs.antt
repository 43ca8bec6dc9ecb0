-- One bit of a product as an answer: unknown where two covered products disagree, else what all give, at every width alike. Assumes nothing.
use mathlib.Core.Path.{◌≡◌, refl, sym, subst, ◌∙◌}
use mathlib.Core.Bool.{cond}
use mathlib.Core.Logic.{inl, inr}
use Prim.Native.Nat.{ℕ, ◌*◌, ◌<◌}
use native.Mathlib.Omega.{arith}
use lib.Dec.{eqb}
use lib.Bits.{bit_and}
use Rattle.bits.specs.Bit.{bit}
use Rattle.bits.proofs.Bits.{bit-cases, bit-and}
use Rattle.vectors.specs.declared.OutputBit.TheVariants.{Zero, One, Unknown}
use Rattle.vectors.specs.Row.{row, WellFormed, Covers}
use Rattle.vectors.specs.OutputBits.{output_bit}
use Rattle.vectors.proofs.Rows.{covers-value, covers-part, covered-part}
use Rattle.vectors.proofs.Told.{output-unknown, output-known}
use Rattle.columns.specs.Settled.{product_of}
use Rattle.columns.proofs.ProductMask.{known-bit, product-varies, product-steady, product_value}
use Rattle.products.proofs.FloorSteps.{Other}

module _ (w ma va mb vb k : ℕ) (h : k < w) where
  pub product-unknown : (a b : ℕ) → Covers (row w ma va) a → Covers (row w mb vb) b → Other k (row w ma va) (row w mb vb) (bit (a * b) k)
      → output_bit (product_of w ma va mb vb) k ≡ Unknown
  product-unknown a b ca cb (x, y, cx, cy, d) =
      output-unknown (product_of w ma va mb vb) k (product-varies w ma va mb vb k h x y a b cx cy ca cb d)

  pub product-known : WellFormed (row w ma va) → WellFormed (row w mb vb) → (n : ℕ)
      → ((a b : ℕ) → Covers (row w ma va) a → Covers (row w mb vb) b → bit (a * b) k ≡ n)
      → output_bit (product_of w ma va mb vb) k ≡ cond (eqb n 1) One Zero
  product-known F G n all =
      let e = product-steady w ma va mb vb k h n all in
      output-known (product_of w ma va mb vb) k n e
      (product_value w ma va mb vb k h F G e ∙ all va vb (covers-value (row w ma va) F) (covers-value (row w mb vb) G))

-- ---- every width above the bit gives the same

covers-too : (w x m v n : ℕ) → WellFormed (row w m v) → WellFormed (row x m v) → Covers (row w m v) n → Covers (row x m v) n
covers-too w x m v n F G c =
    subst (Covers (row x m v)) (sym (covered-part (row w m v) n F c)) (covers-part (row x m v) (bit_and n m) G (λ k. let e = bit-and n m k in omega arith))

module _ (ma va mb vb k w x : ℕ) (F : WellFormed (row w ma va)) (G : WellFormed (row w mb vb)) (P : WellFormed (row x ma va)) (Q : WellFormed (row x mb vb)) where
  known-too : k < w → k < x → bit (product_of w ma va mb vb).mask k ≡ 0 → output_bit (product_of w ma va mb vb) k ≡ output_bit (product_of x ma va mb vb) k
  known-too h i e =
      let n = bit (product_of w ma va mb vb).value k in
      output-known (product_of w ma va mb vb) k n e refl
      ∙ sym (product-known x ma va mb vb k i P Q n (λ a b c d. known-bit w ma va mb vb k h e a b (covers-too x w ma va a P F c) (covers-too x w mb vb b Q G d)))

pub same_bit : (ma va mb vb k w x : ℕ) → k < w → k < x → WellFormed (row w ma va) → WellFormed (row w mb vb) → WellFormed (row x ma va) → WellFormed (row x mb vb)
    → output_bit (product_of w ma va mb vb) k ≡ output_bit (product_of x ma va mb vb) k
same_bit ma va mb vb k w x h i F G P Q = elim (bit-cases (product_of w ma va mb vb).mask k) [
  | inl e ↦ known-too ma va mb vb k w x F G P Q h i e
  | inr e ↦ elim (bit-cases (product_of x ma va mb vb).mask k) [
    | inl f ↦ sym (known-too ma va mb vb k x w P Q F G i h f)
    | inr f ↦ output-unknown (product_of w ma va mb vb) k e ∙ sym (output-unknown (product_of x ma va mb vb) k f)
  ]
]
