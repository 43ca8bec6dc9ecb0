-- The number of an SMT-LIB bit vector. Assumes nothing.
--   Is w n s                       the vector s has width w and the number n
--   nat-number                     SMT-LIB's sum over the positions is the number that has the positions' bits
--   Is-below, Is-bit, Is_at, Is-top   what a vector's number says of its positions;  Is-of   the positions make up the number
--   nat2bv-is, bv-is, made-is      the vector made of any number, as SMT-LIB's nat2bv, of a number that fits, of a result
--   Is-number, Is-width            the number or the width said in another way
use mathlib.Core.Path.{◌≡◌, refl, sym, ap, subst, ◌∙◌}
use mathlib.Core.Bool.{Bool}
use Prim.Native.Nat.{ℕ, zero, suc, ◌+◌, ◌-◌, ◌*◌, ◌%◌, ◌^◌, ◌≤◌, ◌<◌}
use native.Mathlib.Nat.{mod-eq_of_lt, mul_assoc, pow-suc}
use native.Mathlib.Omega.{arith}
use Rattle.bits.specs.Bit.{bit, is_set, digit, number}
use Rattle.bits.proofs.Bits.{number-below, bit-number}
use Rattle.bits.proofs.Numbers.{is_set-digit, number-ext, number-of-bits, number-self}
use Rattle.operations.specs.Bitvector.{Bitvector, sum_to, nat, bv, top}

pub record Is (w n : ℕ) (s : Bitvector) : Type 0 where
  pub width_is : s.width ≡ w
  pub number_is : nat s ≡ n

-- the highest of the positions apart
number-top : (m : ℕ) (p : ℕ → Bool) → number (suc m) p ≡ digit (p m) * 2 ^ m + number m p
unfolding number
number-top zero p = omega arith
number-top (suc m) p =
    omega (arith, number-top m (λ k. p (suc k)), ap (λ (x : ℕ). digit (p (suc m)) * x) (pow-suc 2 m), mul_assoc (digit (p (suc m))) (2 ^ m) 2)

sum_number : (m : ℕ) (p : ℕ → Bool) → sum_to m p ≡ number m p
unfolding sum_to number
sum_number zero p = refl
sum_number (suc m) p = ap (λ (x : ℕ). digit (p m) * 2 ^ m + x) (sum_number m p) ∙ sym (number-top m p)

pub nat-number : (s : Bitvector) → nat s ≡ number s.width s.at
unfolding nat
nat-number s = sum_number s.width s.at

pub Is-below : {w n : ℕ} {s : Bitvector} → Is w n s → n < 2 ^ w
Is-below {w} {n} {s} h = rw (← nat-number s, h.number_is, h.width_is) at (number-below s.width s.at)

pub Is-bit : {w n : ℕ} {s : Bitvector} → Is w n s → (x : ℕ) → x < w → bit n x ≡ digit (s.at x)
Is-bit {w} {n} {s} h x l =
    ap (λ (m : ℕ). bit m x) (sym h.number_is ∙ nat-number s) ∙ bit-number s.width s.at x (omega arith)

pub Is_at : {w n : ℕ} {s : Bitvector} → Is w n s → (x : ℕ) → x < w → is_set n x ≡ s.at x
Is_at {w} {n} {s} h x l = is_set-digit n x (s.at x) (Is-bit h x l)

pub Is-top : {w n : ℕ} {s : Bitvector} → 1 ≤ w → Is w n s → is_set n (w - 1) ≡ top s
unfolding top
Is-top {w} {n} {s} l h = Is_at h (w - 1) (omega arith) ∙ ap (λ (x : ℕ). s.at (x - 1)) (sym h.width_is)

pub Is-of : {w n : ℕ} {s : Bitvector} → s.width ≡ w → n < 2 ^ w → ((x : ℕ) → x < w → bit n x ≡ digit (s.at x)) → Is w n s
Is-of {w} {n} {s} e h f =
    record {
      width_is = e;
      number_is =
          nat-number s
          ∙ ap (λ (m : ℕ). number m s.at) e
          ∙ number-ext w s.at (is_set n) (λ x l. sym (is_set-digit n x (s.at x) (f x l)))
          ∙ number-self w n h;
    }

pub Is-number : {w m n : ℕ} {s : Bitvector} → m ≡ n → Is w m s → Is w n s
Is-number e h = record { width_is = h.width_is; number_is = h.number_is ∙ e }

pub Is-width : {v w n : ℕ} {s : Bitvector} → v ≡ w → Is v n s → Is w n s
Is-width e h = record { width_is = h.width_is ∙ e; number_is = h.number_is }

-- ---- a vector made of a number

pub nat2bv-is : (w n : ℕ) → Is w (n % 2 ^ w) (bv w n)
unfolding bv
nat2bv-is w n = record { width_is = refl; number_is = nat-number (bv w n) ∙ number-of-bits w n }

pub bv-is : {w n : ℕ} → n < 2 ^ w → Is w n (bv w n)
bv-is {w} {n} h = subst (λ (m : ℕ). Is w m (bv w n)) (mod-eq_of_lt h) (nat2bv-is w n)

-- a vector made of the result of a function of numbers
pub made-is : {w m n : ℕ} → m ≡ n → (v : ℕ) → v ≡ w → Is w (n % 2 ^ w) (bv v m)
made-is {w} {m} {n} e v d = rw (e, d) (nat2bv-is w n)
