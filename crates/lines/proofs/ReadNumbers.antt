-- Reading a number: what each way out of the loop has to show. Assumes nothing.
--   too_short, leading-zero, just-zero, too-low, too-high, too-great   the ways out before the end
--   SoFar, begin, more, done                                          the loop
use mathlib.Core.Path.{◌≡◌, refl, sym, ap, ◌∙◌, subst}
use mathlib.Core.Bool.{true, not}
use mathlib.Core.List.{List, [], ◌∷◌}
use Rattle.std.specs.Prelude.{Option, Some, None}
use Prim.Native.Nat.{ℕ, suc, ◌+◌, ◌-◌, ◌*◌, ◌≤◌, ◌<◌}
use native.Mathlib.Numerals.{add-one}
use native.Mathlib.Omega.{arith}
use lib.Dec.{T}
use lib.ListN.{length, get_or, take, drop}
use lib.Seq.{take-suc, drop-cons, take_all, drop-length}
use Rattle.grammar.specs.Limits.{number_limit}
use Rattle.vectors.specs.Lists.{all_of}
use Rattle.grammar.specs.Line.{numeral, is_digit, leading_zero, is_number, number_of}
use Rattle.grammar.proofs.Tests.{ne→neqb, neqb→ne, all_of-append, all-at, all_one, all_none}
use Rattle.grammar.proofs.Decimals.{digit_of}
use Rattle.grammar.proofs.Numbers.{digit-is, digit-least, digit-most, Number, number-tests, number-from}
use Rattle.letters.specs.Reads.{reading}
use Rattle.letters.proofs.Telling.{tells, tells-not}

-- ---- no number

-- the answer of the code
abbrev pub Read : List ℕ → Option ℕ → Type 0
Read f o = o ≡ reading (is_number f) (number_of f)

bad : (f : List ℕ) → (Number f → ⊥) → Read f None
bad f h = tells-not (is_number f) (number_of f) (λ t. h (number-tests f t))

pub too_short : (f : List ℕ) → length f ≡ 0 → Read f None
too_short f e = bad f (λ n. omega (arith, n.some))

pub too-low : (f : List ℕ) (i b : ℕ) → i < length f → b ≡ get_or f i 0 → b < 48 → Read f None
too-low f i b h e l = bad f (λ n. omega (arith, digit-least (get_or f i 0) (all-at is_digit f 0 i h n.all_digits)))

pub too-high : (f : List ℕ) (i b : ℕ) → i < length f → b ≡ get_or f i 0 → 57 < b → Read f None
too-high f i b h e l = bad f (λ n. omega (arith, digit-most (get_or f i 0) (all-at is_digit f 0 i h n.all_digits)))

zero-first : (f : List ℕ) → get_or f 0 0 ≡ 48 → (length f ≡ 1 → ⊥) → T (not (leading_zero f)) → ⊥
zero-first [] e l t = omega arith
zero-first (b ∷ []) e l t = l refl
zero-first (b ∷ c ∷ f) e l t = neqb→ne b 48 t e

pub leading-zero : (f : List ℕ) → get_or f 0 0 ≡ 48 → (length f ≡ 1 → ⊥) → Read f None
leading-zero f e l = bad f (λ n. zero-first f e l n.no_zero)

pub just-zero : (f : List ℕ) → get_or f 0 0 ≡ 48 → length f ≡ 1 → Read f (Some 0)
unfolding is_number number_of numeral all_of
just-zero [] e l = absurd (omega arith)
just-zero (b ∷ []) e l = subst (λ (x : ℕ). Read (x ∷ []) (Some 0)) (sym e) (tells true 0 0 tt refl)
just-zero (b ∷ c ∷ f) e l = absurd (omega arith)

-- ---- the loop

-- n is what the first i bytes stand for, and they are digits
pub record SoFar (f : List ℕ) (i n : ℕ) : Type 0 where
  pub passed : T (all_of is_digit (take i f))
  pub small : n ≤ number_limit
  pub rest : numeral 10 digit_of n (drop i f) ≡ number_of f

pub begin : (f : List ℕ) → SoFar f 0 0
unfolding number_of
begin f = record { passed = all_none is_digit; small = omega arith; rest = refl }

numeral-least : (n : ℕ) (f : List ℕ) → n ≤ numeral 10 digit_of n f
unfolding numeral
numeral-least n [] = omega arith
numeral-least n (b ∷ f) = omega (arith, numeral-least (n * 10 + (b - 48)) f)

module _ (f : List ℕ) (i n b : ℕ) (h : i < length f) (e : b ≡ get_or f i 0) (lo : 48 ≤ b) (hi : b ≤ 57) (s : SoFar f i n) where
  next : numeral 10 digit_of (n * 10 + (b - 48)) (drop (i + 1) f) ≡ number_of f
  unfolding numeral
  next =
      ap (λ (k : ℕ). numeral 10 digit_of (n * 10 + (b - 48)) (drop k f)) (add-one i)
      ∙ ap (λ (x : ℕ). numeral 10 digit_of (n * 10 + (x - 48)) (drop (suc i) f)) e
      ∙ sym (ap (numeral 10 digit_of n) (drop-cons f i 0 h))
      ∙ s.rest

  pub too-great : number_limit < n * 10 + (b - 48) → Read f None
  too-great l = bad f (λ q. omega (arith, q.small, next, numeral-least (n * 10 + (b - 48)) (drop (i + 1) f)))

  pub more : n * 10 + (b - 48) ≤ number_limit → SoFar f (i + 1) (n * 10 + (b - 48))
  more l =
      record {
        passed = subst (λ (l : List ℕ). T (all_of is_digit l)) (sym (ap (λ (k : ℕ). take k f) (add-one i) ∙ take-suc f i 0 h))
            (all_of-append is_digit (take i f) (get_or f i 0 ∷ []) s.passed (all_one is_digit (get_or f i 0) (digit-is (get_or f i 0) (omega arith) (omega arith))));
        small = l;
        rest = next;
      }

not-zero : (f : List ℕ) → (get_or f 0 0 ≡ 48 → ⊥) → T (not (leading_zero f))
not-zero [] z = tt
not-zero (b ∷ []) z = tt
not-zero (b ∷ c ∷ f) z = ne→neqb b 48 z

pub done : (f : List ℕ) (i n : ℕ) → length f ≤ i → i ≤ length f → (length f ≡ 0 → ⊥) → (get_or f 0 0 ≡ 48 → ⊥) → SoFar f i n → Read f (Some n)
unfolding numeral
done f i n h h' l z s =
    let e : i ≡ length f = omega arith in
    let is : n ≡ number_of f = sym (ap (λ (k : ℕ). numeral 10 digit_of n (drop k f)) e ∙ ap (numeral 10 digit_of n) (drop-length f)) ∙ s.rest in
    tells (is_number f) (number_of f) n
    (number-from f (record {
      some = omega arith;
      all_digits = subst (λ (x : List ℕ). T (all_of is_digit x)) (take_all i f h) s.passed;
      no_zero = not-zero f z;
      small = omega (arith, s.small);
    }))
    is
