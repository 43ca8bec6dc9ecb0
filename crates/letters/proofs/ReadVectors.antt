-- Reading a vector: what each way out of the loop has to show. Assumes nothing.
--   too_short, too_long, no-letter     the ways out before the end
--   SoFar, begin, more, done          the loop
use mathlib.Core.Path.{◌≡◌, refl, sym, ap, ap₂, ◌∙◌, subst}
use mathlib.Core.Bool.{Bool, true, false}
use mathlib.Core.List.{List, [], ◌∷◌}
use Rattle.std.specs.Prelude.{Option, Some, None}
use Prim.Native.Nat.{ℕ, suc, ◌+◌, ◌*◌, ◌^◌, ◌≤◌, ◌<◌}
use native.Mathlib.Nat.{pow-suc, pow-le-pow_right, zero-lt-suc}
use native.Mathlib.Numerals.{add-one}
use native.Mathlib.Omega.{arith}
use lib.Dec.{T}
use lib.ListN.{length, get_or, take, drop}
use lib.Seq.{take-suc, drop-cons, take_all, drop-length}
use Rattle.bits.proofs.Bits.{digit_lt}
use Rattle.vectors.specs.Row.{Row, row}
use Rattle.bits.specs.Limits.{width_limit}
use Rattle.grammar.specs.Lists.{is_in}
use Rattle.vectors.specs.Lists.{all_of}
use Rattle.grammar.specs.Words.{Alphabet}
use Rattle.grammar.specs.Line.{numeral, mask_bit, value_bit, is_letter, is_vector, vector_of}
use Rattle.grammar.proofs.Tests.{all_of-append, all-at, all_one, all_none}
use Rattle.grammar.proofs.Vectors.{Letters, vector-tests, vector-from}
use Rattle.letters.specs.Reads.{reading}
use Rattle.letters.proofs.Telling.{tells, tells-not}

-- ---- no vector

-- the answer of the code
abbrev pub Read : Alphabet → List ℕ → Option Row → Type 0
Read a f o = o ≡ reading (is_vector a f) (vector_of a f)

bad : (a : Alphabet) (f : List ℕ) → (Letters a f → ⊥) → Read a f None
bad a f h = tells-not (is_vector a f) (vector_of a f) (λ t. h (vector-tests a f t))

pub too_short : (a : Alphabet) (f : List ℕ) → length f ≡ 0 → Read a f None
too_short a f e = bad a f (λ v. omega (arith, v.some))

pub too_long : (a : Alphabet) (f : List ℕ) → width_limit < length f → Read a f None
too_long a f e = bad a f (λ v. omega (arith, v.few))

pub no-letter : (a : Alphabet) (f : List ℕ) (i : ℕ) → i < length f → (r : Bool) → r ≡ is_letter a (get_or f i 0) → r ≡ false → Read a f None
no-letter a f i h r e z = bad a f (λ v. subst (λ (b : Bool). T b) (sym e ∙ z) (all-at (is_letter a) f 0 i h v.letters))

-- ---- the loop

pub record SoFar (a : Alphabet) (f : List ℕ) (i m v : ℕ) : Type 0 where
  pub passed : T (all_of (is_letter a) (take i f))
  pub mask_below : m < 2 ^ i
  pub value_below : v < 2 ^ i
  pub mask_rest : numeral 2 (mask_bit a) m (drop i f) ≡ numeral 2 (mask_bit a) 0 f
  pub value_rest : numeral 2 (value_bit a) v (drop i f) ≡ numeral 2 (value_bit a) 0 f

pub begin : (a : Alphabet) (f : List ℕ) → SoFar a f 0 0 0
begin a f = record { passed = all_none (is_letter a); mask_below = omega arith; value_below = omega arith; mask_rest = refl; value_rest = refl }

pub mask_lt : (a : Alphabet) (b x : ℕ) → x ≡ mask_bit a b → x < 2
mask_lt a b x e = omega (arith, digit_lt (is_in b a.unknowns))

pub value-lt : (a : Alphabet) (b x : ℕ) → x ≡ value_bit a b → x < 2
value-lt a b x e = omega (arith, digit_lt (is_in b a.ones))

-- one bit more stays below the power of 2, and in a 32-bit number
below_more : (i n x : ℕ) → n < 2 ^ i → x < 2 → n * 2 + x < 2 ^ (i + 1)
below_more i n x h k = omega (arith, ap (λ (j : ℕ). 2 ^ j) (add-one i), pow-suc 2 i)

pub fits_word : (i n x : ℕ) → n < 2 ^ i → i < width_limit → x < 2 → n * 2 + x < 4294967296
fits_word i n x h l k = let p = pow-le-pow_right {n = 2} (zero-lt-suc 1) {i = suc i} {j = 32} l in omega (arith, pow-suc 2 i, p)

module _ (a : Alphabet) (f : List ℕ) (i m v x y : ℕ) (r : Bool) (h : i < length f) (e : r ≡ is_letter a (get_or f i 0)) (t : r ≡ true)
    (ex : x ≡ mask_bit a (get_or f i 0)) (ey : y ≡ value_bit a (get_or f i 0)) (s : SoFar a f i m v) where
  rest : (d : ℕ → ℕ) (n z : ℕ) → z ≡ d (get_or f i 0) → numeral 2 d n (drop i f) ≡ numeral 2 d 0 f → numeral 2 d (n * 2 + z) (drop (i + 1) f) ≡ numeral 2 d 0 f
  unfolding numeral
  rest d n z ez q = ap₂ (λ (k u : ℕ). numeral 2 d (n * 2 + u) (drop k f)) (add-one i) ez ∙ sym (ap (numeral 2 d n) (drop-cons f i 0 h)) ∙ q

  pub more : SoFar a f (i + 1) (m * 2 + x) (v * 2 + y)
  more =
      record {
        passed = subst (λ (l : List ℕ). T (all_of (is_letter a) l)) (sym (ap (λ (k : ℕ). take k f) (add-one i) ∙ take-suc f i 0 h))
            (all_of-append (is_letter a) (take i f) (get_or f i 0 ∷ []) s.passed (all_one (is_letter a) (get_or f i 0) (subst (λ (b : Bool). T b) (sym t ∙ e) tt)));
        mask_below = below_more i m x s.mask_below (mask_lt a (get_or f i 0) x ex);
        value_below = below_more i v y s.value_below (value-lt a (get_or f i 0) y ey);
        mask_rest = rest (mask_bit a) m x ex s.mask_rest;
        value_rest = rest (value_bit a) v y ey s.value_rest;
      }

pub done : (a : Alphabet) (f : List ℕ) (i m v : ℕ) → length f ≤ i → i ≤ length f → (length f ≡ 0 → ⊥) → length f ≤ width_limit → SoFar a f i m v → Read a f (Some (row (length f) m v))
unfolding numeral
done a f i m v h h' l u s =
    let e : i ≡ length f = omega arith in
    let nil = ap (λ (k : ℕ). drop k f) e ∙ drop-length f in
    let mask_is = ap (numeral 2 (mask_bit a) m) (sym nil) ∙ s.mask_rest in
    let value_is = ap (numeral 2 (value_bit a) v) (sym nil) ∙ s.value_rest in
    tells (is_vector a f) (vector_of a f) (row (length f) m v)
    (vector-from a f (record { some = omega arith; few = u; letters = subst (λ (x : List ℕ). T (all_of (is_letter a) x)) (take_all i f h) s.passed }))
    (λ j. row (length f) (mask_is j) (value_is j))
