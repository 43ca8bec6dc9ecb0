-- The numbers of SMT-LIB's extract, concat, zero_extend and sign_extend. Assumes nothing.
--   extract-is                           positions j to i, by the width v = i - j + 1;  low-is   the low part of a wider vector
--   concat-low, concat-high, concat-is   the positions of both parts, and the number
--   copies-is                            copies of one bit b: all bits are b
--   zext-is, sext-is                     extended by i bits;  zext-to, sext-to   extended to a width v
use mathlib.Core.Path.{◌≡◌, sym, ap, ap₂, subst, ◌∙◌}
use mathlib.Core.Bool.{Bool, cond}
use Prim.Native.Nat.{ℕ, zero, suc, ◌+◌, ◌-◌, ◌*◌, ◌/◌, ◌%◌, ◌^◌, ◌≤◌, ◌<◌, min}
use native.Mathlib.Nat.{mod-lt, div-one, mul-one, zero-add}
use native.Mathlib.Numerals.{one-add}
use native.Mathlib.Decide.{dec_lt}
use native.Mathlib.Omega.{arith}
use borrow.Author.Tests.{lt-ltb, le-ltb}
use lib.Pow.{pow_pos, pow-add}
use lib.Arith.{digits_lt}
use Rattle.bits.specs.Bit.{bit, is_set, digit, number}
use Rattle.bits.proofs.Shifts.{bit-div, bit-mod, bit-low, bit_high}
use Rattle.operations.specs.Bitvector.{Bitvector, extract, concat}
use Rattle.operations.specs.SmtLib.{copies, zero_extend, sign_extend}
use Rattle.operations.specs.Terms.{low}
use Rattle.operations.proofs.SmtNat.{Is, Is-below, Is-bit, Is-of, Is-number, Is-width, bv-is}
use Rattle.operations.proofs.SmtBits.{sign_extended}

pub extract-is : {w a : ℕ} {s : Bitvector} (i j v : ℕ) → i + 1 ≡ j + v → 1 ≤ v → j + v ≤ w → Is w a s → Is v (a / 2 ^ j % 2 ^ v) (extract i j s)
unfolding extract
extract-is {w} {a} {s} i j v e l k h =
    Is-of (omega arith) (mod-lt (a / 2 ^ j) (pow_pos v))
    (λ x m.
    bit-mod (a / 2 ^ j) v x m
    ∙ bit-div a j x
    ∙ Is-bit h (x + j) (omega arith)
    ∙ (let d : x + j ≡ j + x = omega arith in ap (λ (y : ℕ). digit (s.at y)) d))

pub low-is : {v w n : ℕ} {r : Bitvector} (s : Bitvector) → s.width ≡ w → 1 ≤ w → w ≤ v → Is v n r → Is w (n % 2 ^ w) (low s r)
low-is {v} {w} {n} s e l k h =
    Is-number (ap (λ (m : ℕ). m % 2 ^ w) (div-one n)) (extract-is (s.width - 1) 0 w (omega arith) l (omega arith) h)

pub concat-low : (s t : Bitvector) (x : ℕ) → x < t.width → (concat s t).at x ≡ t.at x
unfolding concat
concat-low s t x l = ap (λ (b : Bool). cond b (t.at x) (s.at (x - t.width))) (lt-ltb x t.width l)

pub concat-high : (s t : Bitvector) (x : ℕ) → t.width ≤ x → (concat s t).at x ≡ s.at (x - t.width)
unfolding concat
concat-high s t x l = ap (λ (b : Bool). cond b (t.at x) (s.at (x - t.width))) (le-ltb x t.width l)

concat-bit : {v w a b : ℕ} {s t : Bitvector} → Is v a s → Is w b t → (x : ℕ) → x < v + w → bit (a * 2 ^ w + b) x ≡ digit ((concat s t).at x)
concat-bit {v} {w} {a} {b} {s} {t} h g x l =
    elim (dec_lt x w) [
      | yes k ↦ bit-low a w b x k ∙ Is-bit g x k ∙ ap digit (sym (concat-low s t x (omega arith)))
      | no k ↦
          let e : x ≡ x - w + w = omega arith in
          ap (bit (a * 2 ^ w + b)) e
          ∙ bit_high a w b (x - w) (Is-below g)
          ∙ Is-bit h (x - w) (omega arith)
          ∙ ap (λ (m : ℕ). digit (s.at (x - m))) (sym g.width_is)
          ∙ ap digit (sym (concat-high s t x (omega arith)))
    ]

pub concat-is : {v w a b : ℕ} {s t : Bitvector} → Is v a s → Is w b t → Is (v + w) (a * 2 ^ w + b) (concat s t)
unfolding concat
concat-is {v} {w} {a} {b} h g =
    Is-of (ap₂ (λ (x y : ℕ). x + y) h.width_is g.width_is)
    (subst (λ (m : ℕ). a * 2 ^ w + b < m) (sym (pow-add 2 v w)) (digits_lt (Is-below h) (Is-below g)))
    (concat-bit h g)

one_more : (b q m n : ℕ) → m ≡ q + 1 → n ≡ q + q + 1 → b * m + b * q ≡ b * n
one_more b q m n d e = omega (arith, ap (λ (x : ℕ). b * x) d, ap (λ (x : ℕ). b * x) e)

pub copies-is : {b : ℕ} {t : Bitvector} (i : ℕ) → Is 1 b t → Is (suc i) (b * (2 ^ suc i - 1)) (copies i t)
unfolding copies
copies-is {b} zero h = Is-number (sym (mul-one b)) h
copies-is {b} (suc i) h =
    let q = 2 ^ suc i - 1 in
    Is-width (one-add (suc i))
    (Is-number (one_more b q (2 ^ suc i) (2 ^ suc (suc i) - 1) (omega (arith, pow_pos (suc i))) (omega (arith, pow_pos (suc i)))) (concat-is h (copies-is i h)))

pub zext-is : {w a : ℕ} {s : Bitvector} (i : ℕ) → Is w a s → Is (i + w) a (zero_extend i s)
unfolding zero_extend
zext-is {w} {a} zero h = Is-width (sym (zero-add w)) h
zext-is {w} {a} (suc i) h = Is-number (omega arith) (concat-is (copies-is i (bv-is {w = 1} {n = 0} (pow_pos 1))) h)

top-is : {w a : ℕ} {s : Bitvector} → 1 ≤ w → Is w a s → Is 1 (bit a (w - 1)) (extract (s.width - 1) (s.width - 1) s)
unfolding bit
top-is {w} {a} {s} l h =
    Is-number (ap (λ (x : ℕ). a / 2 ^ (x - 1) % 2) h.width_is)
    (extract-is (s.width - 1) (s.width - 1) 1 (omega arith) (omega arith) (omega arith) h)

pub sext-is : {w a : ℕ} {s : Bitvector} (i : ℕ) → 1 ≤ w → Is w a s → Is (i + w) (number (i + w) (λ k. is_set a (min k (w - 1)))) (sign_extend i s)
unfolding sign_extend
sext-is {w} {a} zero l h = Is-number (sym (sign_extended 0 w a l (Is-below h) ∙ omega arith)) (Is-width (sym (zero-add w)) h)
sext-is {w} {a} (suc i) l h = Is-number (sym (sign_extended (suc i) w a l (Is-below h))) (concat-is (copies-is i (top-is l h)) h)

-- ---- extended to a width v

pub zext-to : {w a : ℕ} {s : Bitvector} (v : ℕ) → w ≤ v → Is w a s → Is v a (zero_extend (v - w) s)
zext-to {w} v l h = Is-width (omega arith) (zext-is (v - w) h)

pub sext-to : {w a : ℕ} {s : Bitvector} (v : ℕ) → 1 ≤ w → w ≤ v → Is w a s → Is v (number v (λ k. is_set a (min k (w - 1)))) (sign_extend (v - w) s)
sext-to {w} {a} {s} v l m h =
    let e : v - w + w ≡ v = omega arith in
    subst (λ (x : ℕ). Is x (number x (λ k. is_set a (min k (w - 1)))) (sign_extend (v - w) s)) e (sext-is (v - w) l h)
