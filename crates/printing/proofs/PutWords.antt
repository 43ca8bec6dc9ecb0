-- Writing a word, a number, a name and the letters of a vector. Assumes nothing.
--   word_on, word_end                 a word, byte by byte
--   number-last, number-first         a number, from its last digit back to its first
--   letter-x, letter-one, letter-zero one letter;   letters-on, letters-end   the letters, highest first
use mathlib.Core.Path.{◌≡◌, refl, sym, ap, ap₂, ◌∙◌}
use mathlib.Core.Bool.{Bool, cond}
use mathlib.Core.List.{List, [], ◌∷◌, ◌++◌}
use Prim.Native.Nat.{ℕ, zero, suc, ◌+◌, ◌-◌, ◌/◌, ◌%◌, ◌≤◌, ◌<◌}
use native.Mathlib.Numerals.{add-one}
use native.Mathlib.Omega.{arith}
use lib.Dec.{eqb}
use lib.ListN.{length, get_or, drop, set, drop_of_length-le}
use lib.Seq.{drop-cons, sets}
use borrow.Author.Tests.{eq-eqb, ne_eqb}
use Rattle.bits.specs.Bit.{bit}
use Rattle.grammar.specs.Words.{letter0, letter1, letter_x}
use Rattle.grammar.specs.Print.{decimal, letter, letters_of}
use Rattle.grammar.proofs.Decimals.{decimal-small, decimal-large}
use Rattle.printing.proofs.Puts.{sets-append, set-sets}

-- ---- a word

-- what is left of it from byte i on
pub word_on : (w : List ℕ) (i x : ℕ) → i < length w → x ≡ get_or w i 0 → drop i w ≡ (x ∷ []) ++ drop (i + 1) w
word_on w i x h e = drop-cons w i 0 h ∙ ap₂ {C = List ℕ} (λ (y k : ℕ). y ∷ drop k w) (sym e) (sym (add-one i))

pub word_end : (w : List ℕ) (i : ℕ) → length w ≤ i → drop i w ≡ []
word_end w i h = drop_of_length-le w h

-- ---- a number

-- the last digit, and then the leading digits before it
pub number-last : (l : List ℕ) (at n : ℕ) → 10 ≤ n → sets (set l (at + length (decimal (n / 10))) (48 + n % 10)) at (decimal (n / 10)) ≡ sets l at (decimal n)
number-last l at n h =
    let lead = decimal (n / 10) in
    let e : at + length lead ≤ at + length lead = omega arith in
    set-sets l at (at + length lead) lead (48 + n % 10) e
    ∙ sym (sets-append l at lead ((48 + n % 10) ∷ []))
    ∙ ap (sets l at) (sym (decimal-large n h))

-- the first digit, where it is the only one left
pub number-first : (l : List ℕ) (at n : ℕ) → n < 10 → set l at (48 + n) ≡ sets l at (decimal n)
number-first l at n h = ap (sets l at) (sym (decimal-small n h))

-- ---- letters

pub letter-x : (a b : ℕ) → a ≡ 1 → letter_x ≡ letter a b
letter-x a b e = sym (ap (λ (t : Bool). cond t letter_x (cond (eqb b 1) letter1 letter0)) (eq-eqb a 1 e))

pub letter-one : (a b : ℕ) → (a ≡ 1 → ⊥) → b ≡ 1 → letter1 ≡ letter a b
letter-one a b e f = sym (ap₂ (λ (t u : Bool). cond t letter_x (cond u letter1 letter0)) (ne_eqb a 1 e) (eq-eqb b 1 f))

pub letter-zero : (a b : ℕ) → (a ≡ 1 → ⊥) → (b ≡ 1 → ⊥) → letter0 ≡ letter a b
letter-zero a b e f = sym (ap₂ (λ (t u : Bool). cond t letter_x (cond u letter1 letter0)) (ne_eqb a 1 e) (ne_eqb b 1 f))

-- the letters of the lowest k bits: the highest of them, and the rest
pub letters-on : (k m v x : ℕ) → 0 < k → x ≡ letter (bit m (k - 1)) (bit v (k - 1)) → letters_of k m v ≡ (x ∷ []) ++ letters_of (k - 1) m v
unfolding letters_of
letters-on zero m v x h e = absurd (omega arith)
letters-on (suc k) m v x h e =
    let j : k ≡ suc k - 1 = omega arith in
    ap {B = List ℕ} (λ (i : ℕ). letter (bit m i) (bit v i) ∷ letters_of i m v) j ∙ ap {B = List ℕ} (λ (y : ℕ). y ∷ letters_of (suc k - 1) m v) (sym e)

pub letters-end : (k m v : ℕ) → k ≤ 0 → letters_of k m v ≡ []
unfolding letters_of
letters-end zero m v h = refl
letters-end (suc k) m v h = absurd (omega arith)
