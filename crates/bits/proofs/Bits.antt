-- Laws of the bits of a number, for every width. Assumes nothing.
use mathlib.Core.Path.{◌≡◌, refl, sym, ap, ap₂, ◌∙◌}
use mathlib.Core.Bool.{Bool, true, false}
use mathlib.Core.Logic.{◌⊎◌, inl, inr}
use Prim.Native.Nat.{ℕ, zero, suc, ◌+◌, ◌*◌, ◌/◌, ◌%◌, ◌^◌, ◌≤◌, ◌<◌, min, max}
use native.Mathlib.Nat.{mod-lt, zero-lt-suc, div-one, pow-succ', pow-suc, div-div-eq-div-mul, div-eq_of_lt, div-add-mod', div-lt_iff_lt-mul, lt_of_lt_of_le, le_of_suc-le-suc, not-suc-le-zero}
use native.Mathlib.Omega.{arith}
use lib.Pow.{pow_mono}
use lib.Arith.{lt-one, digits_div, digits_mod}
use lib.Count.{ones_in, ones, ones_step}
use lib.Bits.{bit_and, bit_or, bit_xor, differ, and_shr, or_shr, xor_shr, and_step, or_step, xor_step}
use Rattle.bits.specs.Bit.{bit, digit, number}

pub two_pos : zero < 2
two_pos = zero-lt-suc 1

pub bit-lt : (n k : ℕ) → bit n k < 2
unfolding bit
bit-lt n k = mod-lt (n / 2 ^ k) two_pos

pub bit-zero : (n : ℕ) → bit n 0 ≡ n % 2
unfolding bit
bit-zero n = ap (λ (x : ℕ). x % 2) (div-one n)

pub bit-suc : (n k : ℕ) → bit n (suc k) ≡ bit (n / 2) k
unfolding bit
bit-suc n k = ap (λ (x : ℕ). n / x % 2) (pow-succ' 2 k) ∙ ap (λ (x : ℕ). x % 2) (sym (div-div-eq-div-mul n 2 (2 ^ k)))

pub half-below : (w n : ℕ) → n < 2 ^ suc w → n / 2 < 2 ^ w
half-below w n h = (div-lt_iff_lt-mul two_pos).1 (rw pow-suc at h)

pub bit-above : (w n k : ℕ) → n < 2 ^ w → w ≤ k → bit n k ≡ 0
unfolding bit
bit-above w n k h l = ap (λ (x : ℕ). x % 2) (div-eq_of_lt (lt_of_lt_of_le h (pow_mono l)))

pub digit_lt : (b : Bool) → digit b < 2
digit_lt true = omega arith
digit_lt false = omega arith

-- two numbers below 2 ^ w with the same bits are equal
pub bit-ext : (w n m : ℕ) → n < 2 ^ w → m < 2 ^ w → ((k : ℕ) → k < w → bit n k ≡ bit m k) → n ≡ m
bit-ext zero n m hn hm e = lt-one hn ∙ sym (lt-one hm)
bit-ext (suc w) n m hn hm e =
    sym (div-add-mod' n 2)
    ∙ ap₂ (λ (x y : ℕ). x * 2 + y)
    (bit-ext w (n / 2) (m / 2) (half-below w n hn) (half-below w m hm) (λ k l. sym (bit-suc n k) ∙ e (suc k) (omega arith) ∙ bit-suc m k))
    (sym (bit-zero n) ∙ e 0 (omega arith) ∙ bit-zero m)
    ∙ div-add-mod' m 2

pub number-below : (w : ℕ) (p : ℕ → Bool) → number w p < 2 ^ w
unfolding number
number-below zero p = omega arith
number-below (suc w) p = let h = number-below w (λ k. p (suc k)) in omega (arith, digit_lt (p zero), pow-suc 2 w)

pub bit-number : (w : ℕ) (p : ℕ → Bool) (k : ℕ) → k < w → bit (number w p) k ≡ digit (p k)
unfolding number
bit-number zero p k h = absurd (not-suc-le-zero h)
bit-number (suc w) p zero h = bit-zero (number (suc w) p) ∙ digits_mod (number w (λ k. p (suc k))) (digit_lt (p zero))
bit-number (suc w) p (suc k) h =
    bit-suc (number (suc w) p) k
    ∙ ap (λ (x : ℕ). bit x k) (digits_div (number w (λ j. p (suc j))) (digit_lt (p zero)))
    ∙ bit-number w (λ j. p (suc j)) k (le_of_suc-le-suc h)

-- a bit is 0 or 1
pub bit-cases : (n k : ℕ) → (bit n k ≡ 0) ⊎ (bit n k ≡ 1)
bit-cases n k = go (bit n k) (bit-lt n k)
  where
    go : (b : ℕ) → b < 2 → (b ≡ 0) ⊎ (b ≡ 1)
    go zero h = inl refl
    go (suc zero) h = inr refl
    go (suc (suc b)) h = absurd (not-suc-le-zero (le_of_suc-le-suc (le_of_suc-le-suc h)))

-- the count of set bits below w is monotone in the bits
pub ones_in-mono : (w m n : ℕ) → ((k : ℕ) → k < w → bit m k ≤ bit n k) → ones_in w m ≤ ones_in w n
unfolding ones_in
ones_in-mono zero m n h = omega arith
ones_in-mono (suc w) m n h =
    let low : m % 2 ≤ n % 2 = rw (bit-zero m, bit-zero n) at (h 0 (omega arith)) in
    let high = ones_in-mono w (m / 2) (n / 2) (λ k l. rw (bit-suc m k, bit-suc n k) at (h (suc k) (omega arith))) in
    omega arith

-- ---- the bits of `bit_and`, `bit_or` and `bit_xor`

mod2 : (q b : ℕ) → b < 2 → (q * 2 + b) % 2 ≡ b
mod2 q b h = digits_mod q h

differ-lt : (a b : ℕ) → a < 2 → b < 2 → differ a b < 2
differ-lt zero b p q = q
differ-lt (suc zero) zero p q = p
differ-lt (suc zero) (suc zero) p q = omega arith
differ-lt (suc zero) (suc (suc b)) p q = absurd (omega arith)
differ-lt (suc (suc a)) b p q = absurd (omega arith)

pub bit-and : (a b k : ℕ) → bit (bit_and a b) k ≡ min (bit a k) (bit b k)
unfolding bit
bit-and a b k =
    ap (λ (x : ℕ). x % 2) (and_shr a b k ∙ and_step (a / 2 ^ k) (b / 2 ^ k))
    ∙ mod2 _ _ (let h = bit-lt a k in omega arith)

pub bit-or : (a b k : ℕ) → bit (bit_or a b) k ≡ max (bit a k) (bit b k)
unfolding bit
bit-or a b k =
    ap (λ (x : ℕ). x % 2) (or_shr a b k ∙ or_step (a / 2 ^ k) (b / 2 ^ k))
    ∙ mod2 _ _ (let h = bit-lt a k in let h' = bit-lt b k in omega arith)

pub bit-xor : (a b k : ℕ) → bit (bit_xor a b) k ≡ differ (bit a k) (bit b k)
unfolding bit
bit-xor a b k =
    ap (λ (x : ℕ). x % 2) (xor_shr a b k ∙ xor_step (a / 2 ^ k) (b / 2 ^ k))
    ∙ mod2 _ _ (differ-lt _ _ (bit-lt a k) (bit-lt b k))

pub bit-of-zero : (k : ℕ) → bit 0 k ≡ 0
bit-of-zero k = bit-above 0 0 k (omega arith) (omega arith)

-- the count of unknown bits is the count of set bits of a mask that has none at or above the width
pub ones_in-ones : (w n : ℕ) → n < 2 ^ w → ones_in w n ≡ ones n
unfolding ones_in ones
ones_in-ones zero n h = sym (ap ones (lt-one h))
ones_in-ones (suc w) n h = ap (λ (x : ℕ). n % 2 + x) (ones_in-ones w (n / 2) (half-below w n h)) ∙ sym (ones_step n)
