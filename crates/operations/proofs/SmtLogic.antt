-- The numbers of SMT-LIB's bvnot, bvand, bvor and bvxor, from their positions. Assumes nothing.
use mathlib.Core.Path.{◌≡◌, refl, ap, ap₂, ◌∙◌}
use mathlib.Core.Bool.{Bool, true, false, cond}
use Prim.Native.Nat.{ℕ, ◌-◌, ◌^◌, ◌<◌, min, max}
use lib.Bits.{bit_and, bit_or, bit_xor, differ, and_lt, or_lt, xor_lt}
use lib.Pow.{ones_sub-lt}
use Rattle.bits.specs.Bit.{bit, digit}
use Rattle.bits.proofs.Bits.{bit-and, bit-or, bit-xor}
use Rattle.bits.proofs.Constants.{bit-complement}
use Rattle.operations.specs.Bitvector.{Bitvector}
use Rattle.operations.specs.SmtLib.{bvnot, bvand, bvor, bvxor}
use Rattle.operations.proofs.SmtNat.{Is, Is-below, Is-bit, Is-of}

digit_not : (b : Bool) → 1 - digit b ≡ digit (cond b false true)
digit_not true = refl
digit_not false = refl

digit_and : (b c : Bool) → min (digit b) (digit c) ≡ digit (cond b c false)
digit_and true true = refl
digit_and true false = refl
digit_and false true = refl
digit_and false false = refl

digit_or : (b c : Bool) → max (digit b) (digit c) ≡ digit (cond b true c)
digit_or true true = refl
digit_or true false = refl
digit_or false true = refl
digit_or false false = refl

-- one position of bvxor, as the abbreviation gives it
digit-xor : (b c : Bool) → differ (digit b) (digit c) ≡ digit (cond (cond b (cond c false true) false) true (cond (cond b false true) c false))
digit-xor true true = refl
digit-xor true false = refl
digit-xor false true = refl
digit-xor false false = refl

pub not_is : {w a : ℕ} {s : Bitvector} → Is w a s → Is w (2 ^ w - 1 - a) (bvnot s)
unfolding bvnot
not_is {w} {a} {s} h =
    Is-of h.width_is (ones_sub-lt w a)
    (λ x l. bit-complement w a x (Is-below h) l ∙ ap (λ (m : ℕ). 1 - m) (Is-bit h x l) ∙ digit_not (s.at x))

-- a term that works by positions, whose number works by bits
by-positions : {w a b n : ℕ} {s t r : Bitvector} (f : ℕ → ℕ → ℕ) → Is w a s → Is w b t → r.width ≡ s.width → n < 2 ^ w
    → ((x : ℕ) → bit n x ≡ f (bit a x) (bit b x)) → ((x : ℕ) → f (digit (s.at x)) (digit (t.at x)) ≡ digit (r.at x)) → Is w n r
by-positions f h g e l bits at = Is-of (e ∙ h.width_is) l (λ x k. bits x ∙ ap₂ f (Is-bit h x k) (Is-bit g x k) ∙ at x)

pub and_is : {w a b : ℕ} {s t : Bitvector} → Is w a s → Is w b t → Is w (bit_and a b) (bvand s t)
unfolding bvand
and_is {w} {a} {b} {s} {t} h g = by-positions min h g refl (and_lt w a b (Is-below h) (Is-below g)) (bit-and a b) (λ x. digit_and (s.at x) (t.at x))

pub or_is : {w a b : ℕ} {s t : Bitvector} → Is w a s → Is w b t → Is w (bit_or a b) (bvor s t)
unfolding bvor
or_is {w} {a} {b} {s} {t} h g = by-positions max h g refl (or_lt w a b (Is-below h) (Is-below g)) (bit-or a b) (λ x. digit_or (s.at x) (t.at x))

pub xor_is : {w a b : ℕ} {s t : Bitvector} → Is w a s → Is w b t → Is w (bit_xor a b) (bvxor s t)
unfolding bvxor bvor bvand bvnot
xor_is {w} {a} {b} {s} {t} h g = by-positions differ h g refl (xor_lt w a b (Is-below h) (Is-below g)) (bit-xor a b) (λ x. digit-xor (s.at x) (t.at x))
