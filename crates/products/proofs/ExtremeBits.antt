-- Which bit of a factor lowers the column sum, and which raises it, told by its partner in the other factor (document 002, section 7.2). Assumes nothing.
--   Like x y, Unlike x y   two bits are equal, or are not
--   Moves R k b a c        each bit of c is that of a, or is related by R to its partner's bit in b
use mathlib.Core.Path.{◌≡◌, sym, ap, subst}
use mathlib.Core.Logic.{◌⊎◌, ⊎_elim}
use Prim.Native.Nat.{ℕ, zero, suc, ◌+◌, ◌-◌, ◌*◌, ◌^◌, ◌≤◌, ◌<◌}
use native.Mathlib.Omega.{arith}
use Rattle.bits.specs.Bit.{bit}
use Rattle.bits.proofs.Bits.{bit-lt}
use Rattle.products.specs.Factors.{low_row}
use Rattle.products.proofs.LowRows.{low-row-lt}
use Rattle.products.proofs.Columns.{lower, pair}
use Rattle.products.proofs.Flips.{SumLe, le-by-rows, le-swap, le_trans}

pub two-ind : (Q : ℕ → Type 0) → Q 0 → Q 1 → (s : ℕ) → s < 2 → Q s
two-ind Q a b zero h = a
two-ind Q a b (suc zero) h = b
two-ind Q a b (suc (suc s)) h = absurd (omega arith)

abbrev pub Like : ℕ → ℕ → Type 0
Like x y = x ≡ y

abbrev pub Unlike : ℕ → ℕ → Type 0
Unlike x y = x + y ≡ 1

-- ---- one row: s is the extreme's bit, x any bit, t the partner's, L the row below the column

module _ (H L s x t : ℕ) (hl : L < H) (hs : s < 2) (hx : x < 2) (ht : t < 2) where
  row_same : x ≡ s → s * L + H * (x * t) ≡ x * L + H * (s * t)
  row_same e = omega (arith, ap (λ (y : ℕ). y * L) e, ap (λ (y : ℕ). H * (y * t)) e)

  row-like : Like s t → s * L + H * (x * t) ≤ x * L + H * (s * t)
  row-like e =
      subst (λ (y : ℕ). s * L + H * (x * y) ≤ x * L + H * (s * y)) e
      (two-ind (λ (s : ℕ). s * L + H * (x * s) ≤ x * L + H * (s * s))
      (omega arith)
      (two-ind (λ (x : ℕ). 1 * L + H * (x * 1) ≤ x * L + H * (1 * 1)) (omega arith) (omega arith) x hx)
      s hs)

  row-unlike : Unlike s t → x * L + H * (s * t) ≤ s * L + H * (x * t)
  row-unlike =
      two-ind (λ (s : ℕ). s + t ≡ 1 → x * L + H * (s * t) ≤ s * L + H * (x * t))
      (λ e. let d : t ≡ 1 = omega arith in
      subst (λ (t : ℕ). x * L + H * (0 * t) ≤ 0 * L + H * (x * t)) (sym d)
      (two-ind (λ (x : ℕ). x * L + H * (0 * 1) ≤ 0 * L + H * (x * 1)) (omega arith) (omega arith) x hx))
      (λ e. let d : t ≡ 0 = omega arith in
      subst (λ (t : ℕ). x * L + H * (1 * t) ≤ 1 * L + H * (x * t)) (sym d)
      (two-ind (λ (x : ℕ). x * L + H * (1 * 0) ≤ 1 * L + H * (x * 0)) (omega arith) (omega arith) x hx))
      s hs

  row-least : (x ≡ s) ⊎ Like s t → s * L + H * (x * t) ≤ x * L + H * (s * t)
  row-least = ⊎_elim (λ e. omega (arith, row_same e)) row-like

  row-greatest : (x ≡ s) ⊎ Unlike s t → x * L + H * (s * t) ≤ s * L + H * (x * t)
  row-greatest = ⊎_elim (λ e. omega (arith, row_same e)) row-unlike

-- ---- one factor

abbrev pub Moves : (ℕ → ℕ → Type 0) → ℕ → ℕ → ℕ → ℕ → Type 0
Moves R k b a c = (i : ℕ) → i ≤ k → (bit a i ≡ bit c i) ⊎ R (bit c i) (bit b (k - i))

lowers : (k a c b : ℕ) → Moves Like k b a c → SumLe k c b a b
unfolding lower pair
lowers k a c b h =
    le-by-rows k c a b
    (λ i l. row-least (2 ^ k) (low_row k i b) (bit c i) (bit a i) (bit b (k - i)) (low-row-lt k i b (omega arith)) (bit-lt c i) (bit-lt a i) (bit-lt b (k - i)) (h i l))

raises : (k a c b : ℕ) → Moves Unlike k b a c → SumLe k a b c b
unfolding lower pair
raises k a c b h =
    le-by-rows k a c b
    (λ i l. row-greatest (2 ^ k) (low_row k i b) (bit c i) (bit a i) (bit b (k - i)) (low-row-lt k i b (omega arith)) (bit-lt c i) (bit-lt a i) (bit-lt b (k - i)) (h i l))

-- ---- both: first a's bits, for b as it is, and then b's, for the new a

pub lowers-both : (k a b c d : ℕ) → Moves Like k b a c → Moves Like k c b d → SumLe k c d a b
lowers-both k a b c d h g = le_trans k c d c b a b (le-swap k d c b c (lowers k b d c g)) (lowers k a c b h)

pub raises-both : (k a b c d : ℕ) → Moves Unlike k b a c → Moves Unlike k c b d → SumLe k a b c d
raises-both k a b c d h g = le_trans k a b c b c d (raises k a c b h) (le-swap k b c d c (raises k b d c g))
