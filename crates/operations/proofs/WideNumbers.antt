-- The number that an operand of a wide product counts as. Assumes nothing.
--   sext-sum                           the number that sext extends by its top bit, as a sum
--   counted-unsigned, counted-signed   an operand counts as its number, or as that number extended by its top bit
--   counted-below                      it is below 2^wt
use mathlib.Core.Path.{◌≡◌, sym, ap, ◌∙◌, subst}
use mathlib.Core.Bool.{Bool, true, false}
use mathlib.Core.List.{[], ◌∷◌}
use Prim.Native.Nat.{ℕ, ◌+◌, ◌-◌, ◌*◌, ◌^◌, ◌≤◌, ◌<◌, min}
use native.Mathlib.Nat.{add_comm, mul_assoc, lt_of_lt_of_le}
use native.Mathlib.Omega.{arith}
use lib.Pow.{pow_mono, high_ones}
use Rattle.bits.specs.Bit.{bit, is_set, number}
use Rattle.bits.proofs.Bits.{number-below}
use Rattle.bits.proofs.Numbers.{digit-is_set}
use Rattle.operations.specs.Moves.{op_sext}
use Rattle.operations.specs.Wide.{counted_as}
use Rattle.operations.proofs.SmtBits.{sign_extended}

pub counted-unsigned : (wt w n : ℕ) → counted_as false wt w n ≡ n
unfolding counted_as
counted-unsigned wt w n = omega arith

module _ (wt w n : ℕ) (l : 1 ≤ w) (m : w ≤ wt) (h : n < 2 ^ w) where
  pub sext-sum : op_sext.plain wt (w ∷ []) 0 (n ∷ []) ≡ n + bit n (w - 1) * (2 ^ wt - 2 ^ w)
  unfolding op_sext
  sext-sum =
      let d : wt ≡ wt - w + w = omega arith in
      let e : (2 ^ (wt - w) - 1) * 2 ^ w ≡ 2 ^ wt - 2 ^ w = sym (high_ones (wt - w) w) ∙ ap (λ (k : ℕ). 2 ^ k - 2 ^ w) (sym d) in
      ap (λ (k : ℕ). number k (λ x. is_set n (min x (w - 1)))) d
      ∙ sign_extended (wt - w) w n l h
      ∙ ap (λ (x : ℕ). x + n) (mul_assoc (bit n (w - 1)) (2 ^ (wt - w) - 1) (2 ^ w) ∙ ap (λ (x : ℕ). bit n (w - 1) * x) e)
      ∙ add_comm (bit n (w - 1) * (2 ^ wt - 2 ^ w)) n

  pub counted-signed : counted_as true wt w n ≡ op_sext.plain wt (w ∷ []) 0 (n ∷ [])
  unfolding counted_as
  counted-signed = ap (λ (b : ℕ). n + b * (2 ^ wt - 2 ^ w)) (digit-is_set n (w - 1)) ∙ sym sext-sum

  pub counted-below : (signed : Bool) → counted_as signed wt w n < 2 ^ wt
  unfolding op_sext
  counted-below false = subst (λ (x : ℕ). x < 2 ^ wt) (sym (counted-unsigned wt w n)) (lt_of_lt_of_le h (pow_mono m))
  counted-below true = subst (λ (x : ℕ). x < 2 ^ wt) (sym counted-signed) (number-below wt _)
