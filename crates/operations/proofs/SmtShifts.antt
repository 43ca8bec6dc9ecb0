-- The numbers of SMT-LIB's bvshl, bvlshr and bvashr, and of the low parts of the wider terms that serve every amount. Assumes nothing.
use mathlib.Core.Path.{◌≡◌, sym, ap, ap₂, subst, ◌∙◌}
use mathlib.Core.Bool.{Bool, true, false, cond}
use mathlib.Core.Logic.{inl, inr}
use Prim.Native.Nat.{ℕ, ◌+◌, ◌-◌, ◌*◌, ◌/◌, ◌%◌, ◌^◌, ◌≤◌, min}
use native.Mathlib.Nat.{mod-eq_of_lt, mod-lt, lt_of_le_of_lt}
use native.Mathlib.Omega.{arith}
use lib.Pow.{pow_pos, pow_mono, mod-mod-pow, shr_le}
use Rattle.bits.specs.Bit.{bit, is_set, number}
use Rattle.bits.proofs.Bits.{bit-ext, bit-cases, number-below}
use Rattle.bits.proofs.Numbers.{is_set-true, is_set-false}
use Rattle.bits.proofs.Shifts.{bit-mod}
use Rattle.operations.specs.Limits.{parameter_limit}
use Rattle.operations.specs.Bitvector.{Bitvector, top}
use Rattle.operations.specs.SmtLib.{bvnot, bvshl, bvlshr, bvashr, zero_extend, sign_extend}
use Rattle.operations.specs.Terms.{low, amount}
use Rattle.operations.proofs.SmtBits.{bit-of, shifted-zero, shifted_one}
use Rattle.operations.proofs.SmtNat.{Is, Is-below, Is-top, Is-number, bv-is, made-is}
use Rattle.operations.proofs.SmtLogic.{not_is}
use Rattle.operations.proofs.SmtMoves.{low-is, zext-is, sext-is}

-- ---- the amount in a vector of any width

pub shl_is : {v w p a : ℕ} {s t : Bitvector} → Is w a s → Is v p t → Is w (a * 2 ^ p % 2 ^ w) (bvshl s t)
unfolding bvshl
shl_is {s = s} h g = made-is (ap₂ (λ (x y : ℕ). x * 2 ^ y) h.number_is g.number_is) s.width h.width_is

pub lshr-is : {v w p a : ℕ} {s t : Bitvector} → Is w a s → Is v p t → Is w (a / 2 ^ p) (bvlshr s t)
unfolding bvlshr
lshr-is {p = p} {a} {s} h g =
    Is-number (mod-eq_of_lt (lt_of_le_of_lt (shr_le a p) (Is-below h)))
    (made-is (ap₂ (λ (x y : ℕ). x / 2 ^ y) h.number_is g.number_is) s.width h.width_is)

pub ashr-is : {v w p a : ℕ} {s t : Bitvector} → 1 ≤ w → Is w a s → Is v p t → Is w (number w (λ k. is_set a (min (k + p) (w - 1)))) (bvashr s t)
unfolding bvashr
ashr-is {v} {w} {p} {a} {s} {t} l h g =
    elim (bit-cases a (w - 1)) [
      | inl e ↦
          chosen false (sym (Is-top l h) ∙ is_set-false a (w - 1) e)
          (Is-number (sym (shifted-zero w p a l (Is-below h) e)) (lshr-is h g))
      | inr e ↦
          chosen true (sym (Is-top l h) ∙ is_set-true a (w - 1) e)
          (Is-number (sym (shifted_one w p a l (Is-below h) e)) (not_is (lshr-is (not_is h) g)))
    ]
  where
    shifted : ℕ
    shifted = number w (λ k. is_set a (min (k + p) (w - 1)))

    choice : Bool → Bitvector
    choice b = cond b (bvnot (bvlshr (bvnot s) t)) (bvlshr s t)

    chosen : (b : Bool) → top s ≡ b → Is w shifted (choice b) → Is w shifted (choice (top s))
    chosen b e i = subst (λ (x : Bool). Is w shifted (choice x)) (sym e) i

-- ---- the low part of a term that is five bits wider

amount-is : (s : Bitvector) (p : ℕ) → p ≤ parameter_limit → Is (s.width + 5) p (amount s p)
amount-is s p l = let m : 5 ≤ s.width + 5 = omega arith in bv-is (omega (arith, pow_mono m))

pub wide-shl-is : {w a : ℕ} {s : Bitvector} (p : ℕ) → 1 ≤ w → p ≤ parameter_limit → Is w a s
    → Is w (a * 2 ^ p % 2 ^ w) (low s (bvshl (zero_extend 5 s) (amount s p)))
wide-shl-is {w} {a} {s} p l k h =
    Is-number (mod-mod-pow (a * 2 ^ p) 5 w) (low-is s h.width_is l (omega arith) (shl_is (zext-is 5 h) (amount-is s p k)))

pub wide-lshr-is : {w a : ℕ} {s : Bitvector} (p : ℕ) → 1 ≤ w → p ≤ parameter_limit → Is w a s
    → Is w (a / 2 ^ p) (low s (bvlshr (zero_extend 5 s) (amount s p)))
wide-lshr-is {w} {a} {s} p l k h =
    Is-number (mod-eq_of_lt (Is-below (lshr-is h (amount-is s p k))))
    (low-is s h.width_is l (omega arith) (lshr-is (zext-is 5 h) (amount-is s p k)))

wide-shifted : (w p a : ℕ) → 1 ≤ w
    → number (5 + w) (λ k. is_set (number (5 + w) (λ x. is_set a (min x (w - 1)))) (min (k + p) (5 + w - 1))) % 2 ^ w
    ≡ number w (λ k. is_set a (min (k + p) (w - 1)))
wide-shifted w p a l =
    bit-ext w _ _ (mod-lt _ (pow_pos w)) (number-below w _)
    (λ k m.
    bit-mod _ w k m
    ∙ bit-of (5 + w) extended (λ x. min (x + p) (5 + w - 1)) k (omega arith)
    ∙ bit-of (5 + w) a (λ x. min x (w - 1)) (min (k + p) (5 + w - 1)) (omega arith)
    ∙ (let e : min (min (k + p) (5 + w - 1)) (w - 1) ≡ min (k + p) (w - 1) = omega arith in ap (bit a) e)
    ∙ sym (bit-of w a (λ x. min (x + p) (w - 1)) k m))
  where
    extended : ℕ
    extended = number (5 + w) (λ x. is_set a (min x (w - 1)))

pub wide-ashr-is : {w a : ℕ} {s : Bitvector} (p : ℕ) → 1 ≤ w → p ≤ parameter_limit → Is w a s
    → Is w (number w (λ k. is_set a (min (k + p) (w - 1)))) (low s (bvashr (sign_extend 5 s) (amount s p)))
wide-ashr-is {w} {a} {s} p l k h =
    Is-number (wide-shifted w p a l) (low-is s h.width_is l (omega arith) (ashr-is (omega arith) (sext-is 5 l h) (amount-is s p k)))
