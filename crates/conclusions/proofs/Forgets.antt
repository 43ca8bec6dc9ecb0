-- A bit that becomes X: the bits of the vector, and rows that still fit. Assumes nothing.
use mathlib.Core.Path.{◌≡◌, refl, sym, ap, ◌∙◌}
use mathlib.Core.Logic.{◌≢◌, inl, inr}
use mathlib.Core.List.{List}
use Prim.Native.Nat.{ℕ, ◌^◌, ◌<◌}
use native.Mathlib.Decide.{ℕ_discrete}
use native.Mathlib.Omega.{arith}
use lib.Pow.{pow-lt}
use lib.Bits.{bit_or, or_lt, xor_lt}
use Rattle.bits.specs.Bit.{bit}
use Rattle.bits.proofs.Bits.{bit-lt, bit-or, bit-xor}
use Rattle.bits.proofs.Constants.{bit-pow, bit-pow-other}
use Rattle.bits.proofs.SameBits.{differ-cases}
use Rattle.vectors.specs.Row.{Row, WellFormed}
use Rattle.checks.specs.Table.{State, row_at}
use Rattle.steps.specs.States.{StateFits}
use Rattle.steps.proofs.Put.{fits-put}
use Rattle.conclusions.specs.Pass.{Position, forget_bit, forget}
use Rattle.conclusions.specs.Encoding.{InTable}

module _ (r : Row) (k : ℕ) where
  pub forget-mask-same : bit (forget_bit r k).mask k ≡ 1
  forget-mask-same = bit-or r.mask (2 ^ k) k ∙ omega (arith, bit-pow k, bit-lt r.mask k)

  pub forget-mask-other : (j : ℕ) → j ≢ k → bit (forget_bit r k).mask j ≡ bit r.mask j
  forget-mask-other j d = bit-or r.mask (2 ^ k) j ∙ omega (arith, bit-pow-other k j d)

  -- set, then turned
  forget-value-same : bit (forget_bit r k).value k ≡ 0
  forget-value-same =
      let o = bit-or r.value (2 ^ k) k in
      let b = bit-pow k in
      let l = bit-lt r.value k in
      elim (differ-cases (bit (bit_or r.value (2 ^ k)) k) (bit (2 ^ k) k) (bit-lt (bit_or r.value (2 ^ k)) k) (bit-lt (2 ^ k) k)) [
        | inl d ↦ bit-xor (bit_or r.value (2 ^ k)) (2 ^ k) k ∙ d.1
        | inr d ↦ absurd (omega arith)
      ]

  pub forget-value-other : (j : ℕ) → j ≢ k → bit (forget_bit r k).value j ≡ bit r.value j
  forget-value-other j d =
      let o = bit-or r.value (2 ^ k) j in
      let b = bit-pow-other k j d in
      bit-xor (bit_or r.value (2 ^ k)) (2 ^ k) j
      ∙ elim (differ-cases (bit (bit_or r.value (2 ^ k)) j) (bit (2 ^ k) j) (bit-lt (bit_or r.value (2 ^ k)) j) (bit-lt (2 ^ k) j)) [
        | inl e ↦ omega arith
        | inr e ↦ omega arith
      ]

  forget-formed : WellFormed r → k < r.width → WellFormed (forget_bit r k)
  forget-formed F h =
      record {
        mask_below = or_lt r.width _ _ F.mask_below (pow-lt h);
        value_below = xor_lt r.width _ _ (or_lt r.width _ _ F.value_below (pow-lt h)) (pow-lt h);
        apart = λ j e. elim (ℕ_discrete j k) [
          | yes p ↦ ap (bit (forget_bit r k).value) p ∙ forget-value-same
          | no d ↦ forget-value-other j d ∙ F.apart j (sym (forget-mask-other j d) ∙ e)
        ];
      }

pub forget-fits : (widths : List ℕ) (s : State) → StateFits widths s → (p : Position) → InTable widths p.row p.at → StateFits widths (forget widths s p)
forget-fits widths s S p P =
    fits-put widths s S p.row (forget_bit (row_at widths s p.row) p.at) refl (forget-formed (row_at widths s p.row) p.at (S.formed p.row P.row_in) P.at_in)
