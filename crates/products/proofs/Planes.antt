-- The two planes of a product. Assumes nothing.
--   column-told   the bit of one column, from whether it is unknown and the values' product
--   formed-of     the operands that the checks let pass
--   planes-known  the planes of known operands' product
--   planes-of     the planes from the unknown columns and the values' product, cut to the width
use mathlib.Core.Path.{◌≡◌, refl, sym, ap, ap₂, subst, ◌∙◌}
use mathlib.Core.Logic.{inl, inr}
use mathlib.Core.List.{[], ◌∷◌}
use Prim.Native.Nat.{ℕ, ◌-◌, ◌*◌, ◌%◌, ◌^◌, ◌≤◌, ◌<◌}
use native.Mathlib.Nat.{lt_of_le_of_lt, mod-eq_of_lt}
use native.Mathlib.Omega.{arith}
use lib.Pow.{pow_mono}
use lib.Bits.{bit_and, bit_or, and_zero_l, and_comm, and_le_r, and_mask, mask_lt}
use Rattle.bits.specs.Limits.{width_limit}
use Rattle.bits.specs.Bit.{bit}
use Rattle.bits.proofs.Bits.{bit-lt, bit-cases, bit-and, bit-ext}
use Rattle.bits.proofs.Constants.{bit-complement, bit-ones, bit-pow}
use Rattle.bits.proofs.Shifts.{bit-mod}
use Rattle.vectors.specs.Row.{Row, row}
use Rattle.vectors.specs.OutputBits.{output_bit}
use Rattle.vectors.proofs.Told.{output-unknown, output-known}
use Rattle.operations.specs.Arithmetic.{op_mul}
use Rattle.operations.specs.Result.{Ready}
use Rattle.columns.specs.Formed.{Formed}
use Rattle.columns.specs.Settled.{product_of}
use Rattle.columns.proofs.ProductMask.{product-formed, product-width, product-below, product_value}
use Rattle.products.proofs.Unsettled.{known-operands}

pub column-told : (w ma va mb vb k u p : ℕ) → Formed w ma va mb vb → k < w → u ≡ bit_and (2 ^ k) (product_of w ma va mb vb).mask → p ≡ va * vb % 2 ^ 32
    → output_bit (row w u p) k ≡ output_bit (product_of w ma va mb vb) k
column-told w ma va mb vb k u p F h d e =
    let q = product_of w ma va mb vb in
    let o = F.most in
    let a : bit u k ≡ bit q.mask k = ap (λ (n : ℕ). bit n k) d ∙ bit-and (2 ^ k) q.mask k ∙ omega (arith, bit-pow k, bit-lt q.mask k) in
    elim (bit-cases q.mask k) [
      | inr y ↦ output-unknown (row w u p) k (a ∙ y) ∙ sym (output-unknown q k y)
      | inl y ↦
          let v = ap (λ (n : ℕ). bit n k) e ∙ bit-mod (va * vb) 32 k (omega arith) ∙ sym (product_value w ma va mb vb k h F.first F.second y) in
          output-known (row w u p) k (bit q.value k) (a ∙ y) v ∙ sym (output-known q k (bit q.value k) y refl)
    ]

module _ (w ma va mb vb r p : ℕ) (F : Formed w ma va mb vb) (hr : r < 2 ^ 32) (e : p ≡ va * vb % 2 ^ 32)
    (h : (k : ℕ) → k < w → bit r k ≡ bit (product_of w ma va mb vb).mask k) where
  abbrev q : Row
  q = product_of w ma va mb vb

  abbrev m : ℕ
  m = bit_and r (2 ^ w - 1)

  masks : m ≡ q.mask
  masks = bit-ext w m q.mask (mask_lt r w) (product-below w ma va mb vb) (λ k l. ap (λ (x : ℕ). bit x k) (and_mask r w) ∙ bit-mod r w k l ∙ h k l)

  value-bit : (k : ℕ) → k < w → bit (bit_and p (bit_and (2 ^ 32 - 1 - r) (2 ^ w - 1))) k ≡ bit q.value k
  value-bit k l =
      let o = F.most in
      let a = bit-and p (bit_and (2 ^ 32 - 1 - r) (2 ^ w - 1)) k in
      let b = bit-and (2 ^ 32 - 1 - r) (2 ^ w - 1) k in
      let c = bit-complement 32 r k hr (omega arith) in
      let d = bit-ones w k l in
      let i = h k l in
      let j = bit-lt p k in
      elim (bit-cases q.mask k) [
        | inr y ↦ let z = (product-formed w ma va mb vb).apart k y in omega arith
        | inl y ↦
            let z = product_value w ma va mb vb k l F.first F.second y in
            let x = ap (λ (n : ℕ). bit n k) e ∙ bit-mod (va * vb) 32 k (omega arith) in
            omega arith
      ]

  values : bit_and p (bit_and (2 ^ 32 - 1 - r) (2 ^ w - 1)) ≡ q.value
  values =
      bit-ext w (bit_and p (bit_and (2 ^ 32 - 1 - r) (2 ^ w - 1))) q.value
      (lt_of_le_of_lt (and_le_r p (bit_and (2 ^ 32 - 1 - r) (2 ^ w - 1))) (mask_lt (2 ^ 32 - 1 - r) w))
      (subst (λ (n : ℕ). q.value < 2 ^ n) (product-width w ma va mb vb) (product-formed w ma va mb vb).value_below) value-bit

  pub planes-of : (ones : ℕ) → ones ≡ 2 ^ w - 1 → row w (bit_and r ones) (bit_and p (bit_and (2 ^ 32 - 1 - r) ones)) ≡ q
  planes-of ones f =
      ap (λ (x : ℕ). row w (bit_and r x) (bit_and p (bit_and (2 ^ 32 - 1 - r) x))) f
      ∙ (λ ι. record { width = sym (product-width w ma va mb vb) ι; mask = masks ι; value = values ι })

-- the operands that the checks let pass
pub formed-of : {w ma va mb vb : ℕ} → w ≤ width_limit → Ready op_mul w 0 (row w ma va ∷ row w mb vb ∷ []) → Formed w ma va mb vb
formed-of l R = record { most = l; first = R.formed.0; second = R.formed.1.0 }

pub planes-known : (w ma va mb vb p ones : ℕ) → Formed w ma va mb vb → p ≡ va * vb % 2 ^ 32 → ones ≡ 2 ^ w - 1 → bit_or ma mb ≡ 0
    → row w 0 (bit_and p ones) ≡ product_of w ma va mb vb
planes-known w ma va mb vb p ones F e f z =
    ap₂ (row w) (sym none) (ap (bit_and p) (sym all)) ∙ planes-of w ma va mb vb 0 p F (omega arith) e (known-operands w ma va mb vb F z) ones f
  where
    none : bit_and 0 ones ≡ 0
    none = and_zero_l ones

    all : bit_and (2 ^ 32 - 1) ones ≡ ones
    all =
        and_comm (2 ^ 32 - 1) ones
        ∙ and_mask ones 32
        ∙ mod-eq_of_lt (let x = F.most in let y : 2 ^ w ≤ 2 ^ 32 = pow_mono {j = 32} x in omega arith)
