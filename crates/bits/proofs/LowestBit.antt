-- The lowest set bit of a number, for every width. Assumes nothing.
--   lowest, lowest-below    the count of trailing zeros is its place, below every width that the number has
--   trailing-bit            the bits below it are 0
--   clear_at, clear-other   n & (n - 1) has a 0 there and n's bits elsewhere
--   clear-less              it is below n, so a loop that clears a bit a turn ends
use mathlib.Core.Path.{◌≡◌, refl, sym, ap, ◌∙◌}
use mathlib.Core.Logic.{◌≢◌}
use Prim.Native.Nat.{ℕ, zero, suc, ◌-◌, ◌/◌, ◌%◌, ◌^◌, ◌<◌}
use native.Mathlib.Nat.{mod-lt}
use native.Mathlib.Decide.{dec_lt}
use native.Mathlib.Omega.{arith}
use lib.Bits.{bit_and, and_step, and_self, and_le_r}
use lib.Count.{count_trailing_zeros, under}
use Rattle.bits.specs.Bit.{bit}
use Rattle.bits.proofs.Bits.{bit-zero, bit-suc, bit-above, half-below}

by-digit : (k n d t : ℕ) → n % 2 ≡ d → d < 2 → (d ≡ 0 → (t < k) × (bit (n / 2) t ≡ 1)) → (under d t < suc k) × (bit n (under d t) ≡ 1)
by-digit k n zero t e h f = let g = f refl in (omega (arith, g.0), bit-suc n t ∙ g.1)
by-digit k n (suc d) t e h f = (omega arith, bit-zero n ∙ e ∙ omega arith)

pub lowest : (k n : ℕ) → n ≢ 0 → n < 2 ^ k → (count_trailing_zeros k n < k) × (bit n (count_trailing_zeros k n) ≡ 1)
unfolding count_trailing_zeros
lowest zero n h l = absurd (h (omega arith))
lowest (suc k) n h l =
    by-digit k n (n % 2) (count_trailing_zeros k (n / 2)) refl (mod-lt n (omega arith)) (λ e. lowest k (n / 2) (λ z. h (omega arith)) (half-below k n l))

pub lowest-below : (v w n : ℕ) → n ≢ 0 → n < 2 ^ v → n < 2 ^ w → count_trailing_zeros v n < w
lowest-below v w n h l b =
    elim (dec_lt (count_trailing_zeros v n) w) [
      | yes p ↦ p
      | no p ↦ absurd (omega (arith, (lowest v n h l).1, bit-above w n (count_trailing_zeros v n) b (omega arith)))
    ]

zero-digit : (n d t k : ℕ) → n % 2 ≡ d → ((j : ℕ) → j < t → bit (n / 2) j ≡ 0) → k < under d t → bit n k ≡ 0
zero-digit n zero t zero e f h = bit-zero n ∙ e
zero-digit n zero t (suc k) e f h = bit-suc n k ∙ f k (omega arith)
zero-digit n (suc d) t k e f h = absurd (omega arith)

pub trailing-bit : (v n k : ℕ) → k < count_trailing_zeros v n → bit n k ≡ 0
unfolding count_trailing_zeros
trailing-bit zero n k h = absurd (omega arith)
trailing-bit (suc v) n k h = zero-digit n (n % 2) (count_trailing_zeros v (n / 2)) k refl (trailing-bit v (n / 2)) h

-- ---- the lowest set bit cleared

pub clear-less : (n : ℕ) → n ≢ 0 → bit_and n (n - 1) < n
clear-less n h = omega (arith, and_le_r n (n - 1))

-- m has a 0 at place i, and n's bits elsewhere
abbrev Cleared : ℕ → ℕ → ℕ → Type 0
Cleared n m i = (bit m i ≡ 0) × ((k : ℕ) → k ≢ i → bit m k ≡ bit n k)

module _ (n : ℕ) (h : n ≢ 0) where
  abbrev m : ℕ
  m = bit_and n (n - 1)

  even : m % 2 ≡ 0
  even = omega (arith, and_step n (n - 1))

  half : (q : ℕ) → (n - 1) / 2 ≡ q → m / 2 ≡ bit_and (n / 2) q
  half q e = omega (arith, and_step n (n - 1), ap (bit_and (n / 2)) e)

  -- by the lowest digit
  clear-digit : (d t : ℕ) → n % 2 ≡ d → (d ≡ 0 → Cleared (n / 2) (bit_and (n / 2) (n / 2 - 1)) t) → Cleared n m (under d t)
  clear-digit zero t e f = (bit-suc m t ∙ ap (λ (x : ℕ). bit x t) low ∙ (f refl).0, other)
    where
      low : m / 2 ≡ bit_and (n / 2) (n / 2 - 1)
      low = half (n / 2 - 1) (omega arith)

      other : (k : ℕ) → k ≢ suc t → bit m k ≡ bit n k
      other zero d = bit-zero m ∙ even ∙ sym (bit-zero n ∙ e)
      other (suc k) d = bit-suc m k ∙ ap (λ (x : ℕ). bit x k) low ∙ (f refl).1 k (λ g. d (ap suc g)) ∙ sym (bit-suc n k)
  clear-digit (suc d) t e f = (bit-zero m ∙ even, other)
    where
      other : (k : ℕ) → k ≢ 0 → bit m k ≡ bit n k
      other zero z = absurd (z refl)
      other (suc k) z =
          bit-suc m k ∙ ap (λ (x : ℕ). bit x k) (half (n / 2) (omega arith) ∙ and_self (n / 2)) ∙ sym (bit-suc n k)

cleared : (v n : ℕ) → n ≢ 0 → n < 2 ^ v → Cleared n (bit_and n (n - 1)) (count_trailing_zeros v n)
unfolding count_trailing_zeros
cleared zero n h l = absurd (h (omega arith))
cleared (suc v) n h l =
    clear-digit n h (n % 2) (count_trailing_zeros v (n / 2)) refl (λ e. cleared v (n / 2) (λ z. h (omega arith)) (half-below v n l))

module _ (v n : ℕ) (h : n ≢ 0) (l : n < 2 ^ v) where
  pub clear_at : bit (bit_and n (n - 1)) (count_trailing_zeros v n) ≡ 0
  clear_at = (cleared v n h l).0

  pub clear-other : (k : ℕ) → k ≢ count_trailing_zeros v n → bit (bit_and n (n - 1)) k ≡ bit n k
  clear-other = (cleared v n h l).1
