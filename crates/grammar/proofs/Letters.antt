-- The letters of a vector: printing and reading undo each other. Assumes nothing.
--   letters-length, letters-letters   what is printed
--   mask-back, value-back             what is printed is read as that vector
--   letters-back                      letters of any alphabet that were read are printed as edition 3 has them
use mathlib.Core.Path.{◌≡◌, refl, sym, ap, ap₂, ◌∙◌, subst}
use mathlib.Core.Bool.{Bool, true, false, cond, ◌||◌}
use mathlib.Core.Logic.{inl, inr}
use mathlib.Core.List.{List, [], ◌∷◌, map}
use Prim.Native.Nat.{ℕ, zero, suc, ◌+◌, ◌*◌, ◌/◌, ◌%◌, ◌^◌, ◌<◌}
use native.Mathlib.Nat.{mod-lt, zero-lt-suc, mod-eq_of_lt, div-one, div-div-eq-div-mul, pow-suc, pow-succ', add-mul, mul_assoc, add_assoc, zero-mul, zero-add}
use native.Mathlib.Omega.{arith}
use lib.Dec.{T, eqb, eqb→eq}
use lib.ListN.{length}
use Rattle.bits.specs.Bit.{bit, digit}
use Rattle.bits.proofs.Bools.{T-left, T-right, T_and, T-or}
use Rattle.bits.proofs.Bits.{bit-lt, digit_lt}
use Rattle.bits.proofs.Shifts.{mod-pow-suc}
use Rattle.vectors.specs.Row.{Row, WellFormed}
use Rattle.grammar.specs.Lists.{is_in}
use Rattle.vectors.specs.Lists.{all_of}
use Rattle.grammar.specs.Words.{letter0, letter1, letter_x, Alphabet, three_letters}
use Rattle.grammar.specs.Print.{letter, letters_of}
use Rattle.grammar.specs.Line.{numeral, mask_bit, value_bit, is_letter}
use Rattle.grammar.specs.Form.{letter_form}

abbrev mask_of : ℕ → ℕ
mask_of b = mask_bit three_letters b

abbrev value_of : ℕ → ℕ
value_of b = value_bit three_letters b

-- ---- one letter

letter-mask : (a b : ℕ) → a < 2 → b < 2 → mask_of (letter a b) ≡ a
letter-mask zero zero h k = refl
letter-mask zero (suc zero) h k = refl
letter-mask zero (suc (suc b)) h k = omega arith
letter-mask (suc zero) b h k = refl
letter-mask (suc (suc a)) b h k = omega arith

letter-value : (a b : ℕ) → a < 2 → b < 2 → (a ≡ 1 → b ≡ 0) → value_of (letter a b) ≡ b
letter-value zero zero h k f = refl
letter-value zero (suc zero) h k f = refl
letter-value zero (suc (suc b)) h k f = omega arith
letter-value (suc zero) b h k f = sym (f refl)
letter-value (suc (suc a)) b h k f = omega arith

letter-is : (a b : ℕ) → T (is_letter three_letters (letter a b))
letter-is a b = go (eqb a 1) (eqb b 1)
  where
    go : (p q : Bool) → T (is_letter three_letters (cond p letter_x (cond q letter1 letter0)))
    go true q = tt
    go false true = tt
    go false false = tt

pub by-letter : (P : ℕ → Type 0) → P letter0 → P letter1 → P letter_x → (c : ℕ) → T (is_letter three_letters c) → P c
by-letter P p q r c t =
    elim (T-or (eqb c letter0 || false || (eqb c letter1 || false)) (eqb c letter_x || false) t) [
      | inl u ↦ elim (T-or (eqb c letter0 || false) (eqb c letter1 || false) u) [ inl v ↦ at letter0 v p | inr v ↦ at letter1 v q ]
      | inr u ↦ at letter_x u r
    ]
  where
    at : (d : ℕ) → T (eqb c d || false) → P d → P c
    at d v h = elim (T-or (eqb c d) false v) [ inl w ↦ subst P (sym (eqb→eq c d w)) h | inr w ↦ absurd w ]

letter-back : (a : Alphabet) (c : ℕ) → T (is_letter a c) → letter (mask_bit a c) (value_bit a c) ≡ letter_form a c
letter-back a c t = go (is_in c a.zeros) (is_in c a.ones) (is_in c a.unknowns) t
  where
    go : (z o u : Bool) → T (z || o || u) → letter (digit u) (digit o) ≡ cond u letter_x (cond o letter1 (cond z letter0 c))
    go z o true t = refl
    go z true false t = refl
    go true false false t = refl
    go false false false t = absurd t

-- ---- reading what was printed

pub letters-length : (w m v : ℕ) → length (letters_of w m v) ≡ w
unfolding letters_of
letters-length zero m v = refl
letters-length (suc w) m v = ap suc (letters-length w m v)

pub letters-letters : (w m v : ℕ) → T (all_of (is_letter three_letters) (letters_of w m v))
unfolding letters_of all_of
letters-letters zero m v = tt
letters-letters (suc w) m v =
    T_and (is_letter three_letters (letter (bit m w) (bit v w))) (all_of (is_letter three_letters) (letters_of w m v)) (letter-is (bit m w) (bit v w)) (letters-letters w m v)

-- d tells bit k of x from letter k
numeral-letters : (d : ℕ → ℕ) (x m v w : ℕ) → ((k : ℕ) → k < w → d (letter (bit m k) (bit v k)) ≡ bit x k) → (n : ℕ) → numeral 2 d n (letters_of w m v) ≡ n * 2 ^ w + x % 2 ^ w
unfolding numeral letters_of
numeral-letters d x m v zero h n = omega (arith, mod-lt x (zero-lt-suc 0))
numeral-letters d x m v (suc w) h n =
    numeral-letters d x m v w (λ k l. h k (omega arith)) (n * 2 + d (letter (bit m w) (bit v w)))
    ∙ ap (λ (y : ℕ). (n * 2 + y) * 2 ^ w + x % 2 ^ w) (h w (omega arith))
    ∙ ap (λ (y : ℕ). y + x % 2 ^ w) (add-mul (n * 2) (bit x w) (2 ^ w) ∙ ap (λ (y : ℕ). y + bit x w * 2 ^ w) (mul_assoc n 2 (2 ^ w) ∙ ap (λ (y : ℕ). n * y) (sym (pow-succ' 2 w))))
    ∙ add_assoc (n * 2 ^ suc w) (bit x w * 2 ^ w) (x % 2 ^ w)
    ∙ ap (λ (y : ℕ). n * 2 ^ suc w + y) (sym (mod-pow-suc x w))

whole : (x w : ℕ) → x < 2 ^ w → 0 * 2 ^ w + x % 2 ^ w ≡ x
whole x w h = ap₂ (λ (a b : ℕ). a + b) (zero-mul (2 ^ w)) (mod-eq_of_lt h) ∙ zero-add x

module _ (r : Row) (formed : WellFormed r) where
  pub mask-back : numeral 2 (mask_bit three_letters) 0 (letters_of r.width r.mask r.value) ≡ r.mask
  mask-back =
      numeral-letters mask_of r.mask r.mask r.value r.width
      (λ k h. letter-mask (bit r.mask k) (bit r.value k) (bit-lt r.mask k) (bit-lt r.value k)) 0
      ∙ whole r.mask r.width formed.mask_below

  pub value-back : numeral 2 (value_bit three_letters) 0 (letters_of r.width r.mask r.value) ≡ r.value
  value-back =
      numeral-letters value_of r.value r.mask r.value r.width
      (λ k h. letter-value (bit r.mask k) (bit r.value k) (bit-lt r.mask k) (bit-lt r.value k) (formed.apart k)) 0
      ∙ whole r.value r.width formed.value_below

-- ---- printing what was read

numeral-high : (d : ℕ → ℕ) → ((b : ℕ) → d b < 2) → (n : ℕ) (f : List ℕ) → numeral 2 d n f / 2 ^ length f ≡ n
unfolding numeral
numeral-high d h n [] = div-one n
numeral-high d h n (b ∷ f) =
    ap (λ (x : ℕ). numeral 2 d (n * 2 + d b) f / x) (pow-suc 2 (length f))
    ∙ sym (div-div-eq-div-mul (numeral 2 d (n * 2 + d b) f) (2 ^ length f) 2)
    ∙ ap (λ (x : ℕ). x / 2) (numeral-high d h (n * 2 + d b) f)
    ∙ omega (arith, h b)

-- the letter read next is the bit above those that follow
numeral-bit : (d : ℕ → ℕ) → ((b : ℕ) → d b < 2) → (n b : ℕ) (f : List ℕ) → bit (numeral 2 d (n * 2 + d b) f) (length f) ≡ d b
unfolding bit
numeral-bit d h n b f = ap (λ (x : ℕ). x % 2) (numeral-high d h (n * 2 + d b) f) ∙ omega (arith, h b)

pub letters-back : (a : Alphabet) (f : List ℕ) (m v : ℕ) → T (all_of (is_letter a) f)
    → letters_of (length f) (numeral 2 (mask_bit a) m f) (numeral 2 (value_bit a) v f) ≡ map (letter_form a) f
unfolding letters_of numeral all_of
letters-back a [] m v t = refl
letters-back a (b ∷ f) m v t =
    ap₂ {C = List ℕ} ◌∷◌
    (ap₂ letter (numeral-bit (mask_bit a) (λ c. digit_lt (is_in c a.unknowns)) m b f) (numeral-bit (value_bit a) (λ c. digit_lt (is_in c a.ones)) v b f)
    ∙ letter-back a b (T-left (is_letter a b) (all_of (is_letter a) f) t))
    (letters-back a f (m * 2 + mask_bit a b) (v * 2 + value_bit a b) (T-right (is_letter a b) (all_of (is_letter a) f) t))
