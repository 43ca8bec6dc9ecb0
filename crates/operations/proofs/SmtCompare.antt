-- The numbers of SMT-LIB's =, bvult and bvslt, each written as one bit, and of ite. Assumes nothing.
use mathlib.Core.Path.{◌≡◌, refl, sym, ap, ap₂, subst, ◌∙◌}
use mathlib.Core.Bool.{Bool, true, false, not, cond, ◌&&◌, ◌||◌}
use Prim.Native.Nat.{ℕ, ◌+◌, ◌-◌, ◌*◌, ◌^◌, ◌≤◌, ◌<◌}
use native.Mathlib.Omega.{arith}
use borrow.Author.Tests.{lt-ltb, le-ltb}
use lib.Dec.{T, eqb, ltb, eqb→eq, lt→ltb, ltb→lt}
use Rattle.bits.specs.Bit.{bit, is_set, digit}
use Rattle.bits.specs.Below.{all_below}
use Rattle.bits.proofs.Bits.{bit-zero, bit-ext, digit_lt}
use Rattle.bits.proofs.Bools.{eq→eqb}
use Rattle.bits.proofs.Below.{all_below-intro, all_below-elim}
use Rattle.bits.proofs.Numbers.{digit-is_set}
use Rattle.operations.specs.Bitvector.{Bitvector, bv, top}
use Rattle.operations.specs.SmtLib.{bveq, bvult, bvslt, bit1, bvite}
use Rattle.operations.proofs.SmtBits.{T-ext}
use Rattle.operations.proofs.SmtNat.{Is, Is-below, Is-bit, Is_at, Is-top, Is-of, Is-number, bv-is}

-- ---- truth values

same_test : (b c : Bool) → T (cond b c (not c)) → b ≡ c
same_test true true t = refl
same_test true false t = absurd t
same_test false true t = absurd t
same_test false false t = refl

test-same : (b c : Bool) → b ≡ c → T (cond b c (not c))
test-same b c e = subst (λ (d : Bool). T (cond b d (not d))) e (itself b)
  where
    itself : (d : Bool) → T (cond d d (not d))
    itself true = tt
    itself false = tt

pub eq_test : {w a b : ℕ} {s t : Bitvector} → Is w a s → Is w b t → bveq s t ≡ eqb a b
unfolding bveq
eq_test {w} {a} {b} {s} {t} h g = T-ext _ (eqb a b) there back
  where
    agree : ℕ → Bool
    agree x = cond (s.at x) (t.at x) (not (t.at x))

    there : T (all_below s.width agree) → T (eqb a b)
    there k =
        eq→eqb
        (bit-ext w a b (Is-below h) (Is-below g)
        (λ x l.
        Is-bit h x l
        ∙ ap digit (same_test (s.at x) (t.at x) (all_below-elim s.width agree k x (omega (arith, h.width_is))))
        ∙ sym (Is-bit g x l)))

    back : T (eqb a b) → T (all_below s.width agree)
    back k =
        all_below-intro s.width agree
        (λ x l.
        let m : x < w = omega (arith, h.width_is) in
        test-same (s.at x) (t.at x) (sym (Is_at h x m) ∙ ap (λ (n : ℕ). is_set n x) (eqb→eq a b k) ∙ Is_at g x m))

pub ult-test : {w a b : ℕ} {s t : Bitvector} → Is w a s → Is w b t → bvult s t ≡ ltb a b
unfolding bvult
ult-test h g = ap₂ ltb h.number_is g.number_is

ltb-same : (a b c d : ℕ) → (a < b → c < d) → (c < d → a < b) → ltb a b ≡ ltb c d
ltb-same a b c d f g = T-ext (ltb a b) (ltb c d) (λ t. lt→ltb c d (f (ltb→lt a b t))) (λ t. lt→ltb a b (g (ltb→lt c d t)))

-- bvslt by the top bits
abbrev signed : Bool → Bool → Bool → Bool
signed b c less = (b && not c) || (cond b c (not c) && less)

signed-less : (m a b : ℕ) → a < m → b < m → (x y : Bool) → signed x y (ltb a b) ≡ ltb (a + m * digit y) (b + m * digit x)
signed-less m a b h g true true = ltb-same a b (a + m * 1) (b + m * 1) (λ l. omega arith) (λ l. omega arith)
signed-less m a b h g true false = sym (lt-ltb (a + m * 0) (b + m * 1) (omega arith))
signed-less m a b h g false true = sym (le-ltb (a + m * 1) (b + m * 0) (omega arith))
signed-less m a b h g false false = ltb-same a b (a + m * 0) (b + m * 0) (λ l. omega arith) (λ l. omega arith)

pub slt-test : {w a b : ℕ} {s t : Bitvector} → 1 ≤ w → Is w a s → Is w b t → bvslt s t ≡ ltb (a + 2 ^ w * bit b (w - 1)) (b + 2 ^ w * bit a (w - 1))
unfolding bvslt
slt-test {w} {a} {b} {s} {t} l h g =
    ap (signed (top s) (top t)) (ult-test h g)
    ∙ signed-less (2 ^ w) a b (Is-below h) (Is-below g) (top s) (top t)
    ∙ ap₂ (λ (x y : ℕ). ltb (a + 2 ^ w * y) (b + 2 ^ w * x)) (top_bit h) (top_bit g)
  where
    top_bit : {n : ℕ} {r : Bitvector} → Is w n r → digit (top r) ≡ bit n (w - 1)
    top_bit {n} i = ap digit (sym (Is-top l i)) ∙ digit-is_set n (w - 1)

-- ---- a truth value as one bit

bit1-is : (b : Bool) → Is 1 (digit b) (bit1 b)
unfolding bit1
bit1-is b = Is-of refl (digit_lt b) (λ x l. let e : x ≡ 0 = omega arith in ap (bit (digit b)) e ∙ lowest b)
  where
    lowest : (c : Bool) → bit (digit c) 0 ≡ digit c
    lowest true = bit-zero 1
    lowest false = bit-zero 0

pub eq_is : {w a b : ℕ} {s t : Bitvector} → Is w a s → Is w b t → Is 1 (digit (eqb a b)) (bit1 (bveq s t))
eq_is h g = Is-number (ap digit (eq_test h g)) (bit1-is _)

pub ult_is : {w a b : ℕ} {s t : Bitvector} → Is w a s → Is w b t → Is 1 (digit (ltb a b)) (bit1 (bvult s t))
ult_is h g = Is-number (ap digit (ult-test h g)) (bit1-is _)

pub slt-is : {w a b : ℕ} {s t : Bitvector} → 1 ≤ w → Is w a s → Is w b t
    → Is 1 (digit (ltb (a + 2 ^ w * bit b (w - 1)) (b + 2 ^ w * bit a (w - 1)))) (bit1 (bvslt s t))
slt-is l h g = Is-number (ap digit (slt-test l h g)) (bit1-is _)

pub ite-is : {w a b c : ℕ} {s t r : Bitvector} → Is w a s → Is w b t → Is 1 c r → Is w (cond (eqb c 1) a b) (bvite (bveq r (bv 1 1)) s t)
unfolding bvite
ite-is {w} {a} {b} {c} {s} {t} {r} h g k =
    subst (λ (d : Bool). Is w (cond (eqb c 1) a b) (cond d s t)) (sym (eq_test k (bv-is {w = 1} {n = 1} (omega arith)))) (chosen (eqb c 1))
  where
    chosen : (d : Bool) → Is w (cond d a b) (cond d s t)
    chosen true = h
    chosen false = g
