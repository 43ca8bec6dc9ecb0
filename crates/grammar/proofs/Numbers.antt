-- Numbers of a record line: what is printed is one, and one that was read is printed as it was. Assumes nothing.
--   Number, number-tests, number-from   the tests of a number, by name
--   decimal-number                      what is printed, up to the limit, is a number of the grammar
--   decimal-back                        a number of the grammar is printed as it was read
use mathlib.Core.Path.{◌≡◌, sym, ap, ap₂, ◌∙◌, subst}
use mathlib.Core.Bool.{true, not, ◌&&◌}
use mathlib.Core.Logic.{inl, inr}
use mathlib.Core.List.{List, [], ◌∷◌, ◌++◌, append-nil, append_assoc}
use Prim.Native.Nat.{ℕ, ◌+◌, ◌-◌, ◌*◌, ◌/◌, ◌%◌, ◌≤◌, ◌<◌}
use native.Mathlib.Omega.{arith}
use lib.Dec.{T, leb, leb→le, le→leb}
use lib.ListN.{length}
use Rattle.bits.proofs.Bools.{T-left, T-right, T_and}
use Rattle.grammar.specs.Limits.{number_limit}
use Rattle.vectors.specs.Lists.{all_of}
use Rattle.grammar.specs.Print.{decimal}
use Rattle.grammar.specs.Line.{numeral, is_digit, leading_zero, is_number, number_of}
use Rattle.grammar.proofs.Tests.{ne→neqb, neqb→ne, all_of-append, all_one}
use Rattle.grammar.proofs.Decimals.{split_ten, decimal-small, decimal-large, by_digits, digit_of, number-decimal, length-pos}

-- ---- digits

pub digit-is : (b : ℕ) → 48 ≤ b → b ≤ 57 → T (is_digit b)
digit-is b lo hi = T_and (leb 48 b) (leb b 57) (le→leb 48 b lo) (le→leb b 57 hi)

pub digit-least : (b : ℕ) → T (is_digit b) → 48 ≤ b
digit-least b t = leb→le 48 b (T-left (leb 48 b) (leb b 57) t)

pub digit-most : (b : ℕ) → T (is_digit b) → b ≤ 57
digit-most b t = leb→le b 57 (T-right (leb 48 b) (leb b 57) t)

pub decimal-digits : (n : ℕ) → T (all_of is_digit (decimal n))
decimal-digits =
    by_digits (λ n. T (all_of is_digit (decimal n)))
    (λ n h. subst (λ (l : List ℕ). T (all_of is_digit l)) (sym (decimal-small n h)) (one n h))
    (λ n h r. subst (λ (l : List ℕ). T (all_of is_digit l)) (sym (decimal-large n h)) (all_of-append is_digit (decimal (n / 10)) ((48 + n % 10) ∷ []) r (one (n % 10) (omega arith))))
  where
    one : (d : ℕ) → d < 10 → T (all_of is_digit ((48 + d) ∷ []))
    one d h = all_one is_digit (48 + d) (digit-is (48 + d) (omega arith) (omega arith))

-- ---- leading zeros

abbrev NoZero : List ℕ → Type 0
NoZero f = T (not (leading_zero f))

-- a first digit that is not 0 stays first
no-zero-append : (b : ℕ) (f : List ℕ) → (b ≡ 48 → ⊥) → NoZero (b ∷ f)
no-zero-append b [] h = tt
no-zero-append b (c ∷ f) h = ne→neqb b 48 h

abbrev Leads : List ℕ → Type 0
Leads f = (b : ℕ) × (rest : List ℕ) × (f ≡ b ∷ rest) × (b ≡ 48 → ⊥)

leads : (n : ℕ) → 1 ≤ n → Leads (decimal n)
leads =
    by_digits (λ n. 1 ≤ n → Leads (decimal n))
    (λ n h l. (48 + n, [], decimal-small n h, λ e. omega arith))
    (λ n h r l. let q = r (omega arith) in (q.0, q.1 ++ ((48 + n % 10) ∷ []), decimal-large n h ∙ ap (λ (x : List ℕ). x ++ ((48 + n % 10) ∷ [])) q.2, q.3))

decimal-no-zero : (n : ℕ) → NoZero (decimal n)
decimal-no-zero n =
    elim (split_ten n) [
      | inl h ↦ subst NoZero (sym (decimal-small n h)) tt
      | inr h ↦ let q = leads n (omega arith) in subst NoZero (sym q.2) (no-zero-append q.0 q.1 q.3)
    ]

-- ---- the tests of a number, by name

pub record Number (f : List ℕ) : Type 0 where
  pub some : 1 ≤ length f
  pub all_digits : T (all_of is_digit f)
  pub no_zero : T (not (leading_zero f))
  pub small : number_of f ≤ number_limit

pub number-tests : (f : List ℕ) → T (is_number f) → Number f
unfolding is_number
number-tests f t =
    let t₃ = T-left (leb 1 (length f) && all_of is_digit f && not (leading_zero f)) (leb (number_of f) number_limit) t in
    let t₂ = T-left (leb 1 (length f) && all_of is_digit f) (not (leading_zero f)) t₃ in
    record {
      some = leb→le 1 (length f) (T-left (leb 1 (length f)) (all_of is_digit f) t₂);
      all_digits = T-right (leb 1 (length f)) (all_of is_digit f) t₂;
      no_zero = T-right (leb 1 (length f) && all_of is_digit f) (not (leading_zero f)) t₃;
      small = leb→le (number_of f) number_limit (T-right (leb 1 (length f) && all_of is_digit f && not (leading_zero f)) (leb (number_of f) number_limit) t);
    }

pub number-from : (f : List ℕ) → Number f → T (is_number f)
unfolding is_number
number-from f n =
    T_and (leb 1 (length f) && all_of is_digit f && not (leading_zero f)) (leb (number_of f) number_limit)
    (T_and (leb 1 (length f) && all_of is_digit f) (not (leading_zero f)) (T_and (leb 1 (length f)) (all_of is_digit f) (le→leb 1 (length f) n.some) n.all_digits) n.no_zero)
    (le→leb (number_of f) number_limit n.small)

pub decimal-number : (n : ℕ) → n ≤ number_limit → T (is_number (decimal n))
decimal-number n l =
    number-from (decimal n)
    (record { some = length-pos n; all_digits = decimal-digits n; no_zero = decimal-no-zero n; small = omega (arith, number-decimal n) })

-- ---- printing what was read

more : (n b : ℕ) → 1 ≤ n → T (is_digit b) → decimal (n * 10 + (b - 48)) ≡ decimal n ++ (b ∷ [])
more n b h t =
    let lo : 48 ≤ b = digit-least b t in
    let hi : b ≤ 57 = digit-most b t in
    let q : (n * 10 + (b - 48)) / 10 ≡ n = omega arith in
    let r : 48 + (n * 10 + (b - 48)) % 10 ≡ b = omega arith in
    decimal-large (n * 10 + (b - 48)) (omega arith) ∙ ap₂ (λ (x y : ℕ). decimal x ++ (y ∷ [])) q r

decimal-numeral : (n : ℕ) (f : List ℕ) → 1 ≤ n → T (all_of is_digit f) → decimal (numeral 10 digit_of n f) ≡ decimal n ++ f
unfolding numeral all_of
decimal-numeral n [] h t = sym (append-nil (decimal n))
decimal-numeral n (b ∷ f) h t =
    decimal-numeral (n * 10 + (b - 48)) f (omega arith) (T-right (is_digit b) (all_of is_digit f) t)
    ∙ ap (λ (x : List ℕ). x ++ f) (more n b h (T-left (is_digit b) (all_of is_digit f) t))
    ∙ append_assoc (decimal n) (b ∷ []) f

single : (b : ℕ) → T (is_digit b) → decimal (0 * 10 + (b - 48)) ≡ b ∷ []
single b t =
    let lo : 48 ≤ b = digit-least b t in
    let hi : b ≤ 57 = digit-most b t in
    let r : 48 + (0 * 10 + (b - 48)) ≡ b = omega arith in
    decimal-small (0 * 10 + (b - 48)) (omega arith) ∙ ap {B = List ℕ} (λ (x : ℕ). x ∷ []) r

back : (f : List ℕ) → 1 ≤ length f → T (all_of is_digit f) → NoZero f → decimal (number_of f) ≡ f
unfolding number_of numeral all_of
back [] h t z = absurd (omega arith)
back (b ∷ []) h t z = single b (T-left (is_digit b) true t)
back (b ∷ c ∷ f) h t z =
    decimal-numeral (0 * 10 + (b - 48)) (c ∷ f) (above (digit-least b head) (neqb→ne b 48 z)) (T-right (is_digit b) (all_of is_digit (c ∷ f)) t)
    ∙ ap (λ (x : List ℕ). x ++ c ∷ f) (single b head)
  where
    head : T (is_digit b)
    head = T-left (is_digit b) (all_of is_digit (c ∷ f)) t

    above : 48 ≤ b → (b ≡ 48 → ⊥) → 1 ≤ 0 * 10 + (b - 48)
    above l e = omega arith

pub decimal-back : (f : List ℕ) → T (is_number f) → decimal (number_of f) ≡ f
decimal-back f t = let n = number-tests f t in back f n.some n.all_digits n.no_zero
