-- Numbers in decimal: what is printed is read as that number. Assumes nothing.
--   decimal-small, decimal-large   one digit; leading digits, then the last
--   number-decimal                 what is printed is read as that number
--   length-pos .. length_most      how many digits there are
use mathlib.Core.Path.{◌≡◌, refl, sym, ap, ◌∙◌}
use mathlib.Core.Logic.{◌⊎◌, inl, inr}
use mathlib.Core.List.{List, [], ◌∷◌, ◌++◌}
use Prim.Native.Nat.{ℕ, zero, suc, ◌+◌, ◌-◌, ◌*◌, ◌/◌, ◌%◌, ◌≤◌, ◌<◌}
use native.Mathlib.Nat.{not-suc-le-zero}
use native.Mathlib.Omega.{arith}
use lib.Dec.{ltb, ltb→lt, nltb→le, lt→ltb}
use lib.Arith.{le→nltb}
use lib.ListN.{length, length-append}
use Rattle.grammar.specs.Print.{digits, decimal}
use Rattle.grammar.specs.Line.{numeral, number_of}
use Rattle.grammar.proofs.Tests.{decide}
use Rattle.bits.proofs.Bools.{when_true, when_false}

-- ---- one more digit, with no bound on their count

digits-small : (f n : ℕ) → n < 10 → digits (suc f) n ≡ (48 + n) ∷ []
unfolding digits
digits-small f n h = when_true (ltb n 10) ((48 + n) ∷ []) (digits f (n / 10) ++ ((48 + n % 10) ∷ [])) (lt→ltb n 10 h)

digits-large : (f n : ℕ) → 10 ≤ n → digits (suc f) n ≡ digits f (n / 10) ++ ((48 + n % 10) ∷ [])
unfolding digits
digits-large f n h = when_false (ltb n 10) ((48 + n) ∷ []) (digits f (n / 10) ++ ((48 + n % 10) ∷ [])) (le→nltb n 10 h)

abbrev pub split_ten : (n : ℕ) → (n < 10) ⊎ (10 ≤ n)
split_ten n = elim (decide (ltb n 10)) [ inl t ↦ inl (ltb→lt n 10 t) | inr t ↦ inr (nltb→le n 10 t) ]

digits-bound : (f g n : ℕ) → n < f → n < g → digits f n ≡ digits g n
digits-bound zero g n h k = absurd (not-suc-le-zero h)
digits-bound (suc f) zero n h k = absurd (not-suc-le-zero k)
digits-bound (suc f) (suc g) n h k = go (split_ten n) (λ l m. digits-bound f g (n / 10) l m)
  where
    go : (n < 10) ⊎ (10 ≤ n) → (n / 10 < f → n / 10 < g → digits f (n / 10) ≡ digits g (n / 10)) → digits (suc f) n ≡ digits (suc g) n
    go (inl l) r = digits-small f n l ∙ sym (digits-small g n l)
    go (inr l) r = digits-large f n l ∙ ap (λ (x : List ℕ). x ++ ((48 + n % 10) ∷ [])) (r (omega arith) (omega arith)) ∙ sym (digits-large g n l)

pub decimal-small : (n : ℕ) → n < 10 → decimal n ≡ (48 + n) ∷ []
unfolding decimal
decimal-small n h = digits-small n n h

pub decimal-large : (n : ℕ) → 10 ≤ n → decimal n ≡ decimal (n / 10) ++ ((48 + n % 10) ∷ [])
unfolding decimal
decimal-large n h = digits-large n n h ∙ ap (λ (x : List ℕ). x ++ ((48 + n % 10) ∷ [])) (digits-bound n (suc (n / 10)) (n / 10) (omega arith) (omega arith))

-- induction on a number's decimal digits
pub by_digits : (P : ℕ → Type 0) → ((n : ℕ) → n < 10 → P n) → ((n : ℕ) → 10 ≤ n → P (n / 10) → P n) → (n : ℕ) → P n
by_digits P base step n = go (suc n) n (omega arith)
  where
    go : (f m : ℕ) → m < f → P m
    go zero m h = absurd (not-suc-le-zero h)
    go (suc f) m h = elim (split_ten m) [ inl l ↦ base m l | inr l ↦ step m l (go f (m / 10) (omega arith)) ]

-- ---- reading what was printed

numeral-append : (base : ℕ) (value : ℕ → ℕ) (n : ℕ) (x y : List ℕ) → numeral base value n (x ++ y) ≡ numeral base value (numeral base value n x) y
unfolding numeral
numeral-append base value n [] y = refl
numeral-append base value n (b ∷ x) y = numeral-append base value (n * base + value b) x y

abbrev pub digit_of : ℕ → ℕ
digit_of b = b - 48

pub number-decimal : (n : ℕ) → number_of (decimal n) ≡ n
unfolding number_of numeral
number-decimal =
    by_digits (λ n. number_of (decimal n) ≡ n)
    (λ n h. ap number_of (decimal-small n h) ∙ omega arith)
    (λ n h r.
    ap number_of (decimal-large n h)
    ∙ numeral-append 10 digit_of 0 (decimal (n / 10)) ((48 + n % 10) ∷ [])
    ∙ ap (λ (x : ℕ). x * 10 + (48 + n % 10 - 48)) r
    ∙ omega arith)

-- ---- how many digits there are

pub length-small : (n : ℕ) → n < 10 → length (decimal n) ≡ 1
length-small n h = ap length (decimal-small n h)

pub length-large : (n : ℕ) → 10 ≤ n → length (decimal n) ≡ length (decimal (n / 10)) + 1
length-large n h = ap length (decimal-large n h) ∙ length-append (decimal (n / 10)) ((48 + n % 10) ∷ [])

pub length-pos : (n : ℕ) → 1 ≤ length (decimal n)
length-pos n = elim (split_ten n) [ inl h ↦ omega (arith, length-small n h) | inr h ↦ omega (arith, length-large n h) ]

pub length_two : (n : ℕ) → n ≤ 99 → length (decimal n) ≤ 2
length_two n l = elim (split_ten n) [ inl h ↦ omega (arith, length-small n h) | inr h ↦ omega (arith, length-large n h, length-small (n / 10) (omega arith)) ]

pub length_three : (n : ℕ) → n ≤ 999 → length (decimal n) ≤ 3
length_three n l = elim (split_ten n) [ inl h ↦ omega (arith, length-small n h) | inr h ↦ omega (arith, length-large n h, length_two (n / 10) (omega arith)) ]

pub length_most : (n : ℕ) → length (decimal n) ≤ 1 + n
length_most = by_digits (λ n. length (decimal n) ≤ 1 + n) (λ n h. omega (arith, length-small n h)) (λ n h r. omega (arith, length-large n h, r))
