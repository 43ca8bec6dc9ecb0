-- The words that the code computes, for every width of a word. Assumes nothing.
use mathlib.Core.Path.{◌≡◌, sym, ap, ap₂, ◌∙◌}
use Prim.Native.Nat.{ℕ, zero, suc, ◌+◌, ◌-◌, ◌*◌, ◌/◌, ◌%◌, ◌^◌, ◌≤◌, ◌<◌, min}
use native.Mathlib.Nat.{mod-lt, mul_comm, pow-suc, lt_of_le_of_lt}
use native.Mathlib.Numerals.{add-one}
use native.Mathlib.Omega.{arith}
use lib.Arith.{digits_lt}
use lib.Bits.{bit_and, bit_xor, and_mask, and_le_l, xor_block, xor_zero_r}
use lib.Pow.{pow_pos, low, shl_exact}
use Rattle.bits.specs.Bit.{bit}
use Rattle.bits.proofs.Bits.{bit-lt, bit-and, bit-ext, bit-above}
use Rattle.bits.proofs.Constants.{bit-complement}
use Rattle.bits.proofs.Numbers.{below-of-bits}
use Rattle.bits.proofs.Words.{cut_twice, shifted_one}
use Rattle.products.specs.Factors.{and_not, low_row}
use Rattle.products.proofs.LowRows.{row-parts, row_lt, low-row-lt}
use Rattle.products.proofs.Masks.{bit-and-not}

pub and-complement : (w x y : ℕ) → x < 2 ^ w → y < 2 ^ w → bit_and x (2 ^ w - 1 - y) ≡ and_not x y
and-complement w x y hx hy =
    bit-ext w (bit_and x (2 ^ w - 1 - y)) (and_not x y) (lt_of_le_of_lt (and_le_l x (2 ^ w - 1 - y)) hx)
    (below-of-bits w (and_not x y) (λ i l. bit-and-not x y i ∙ (let z = bit-above w x i hx l in omega arith)))
    (λ i l. bit-and x (2 ^ w - 1 - y) i ∙ ap (λ (n : ℕ). min (bit x i) n) (bit-complement w y i hy l) ∙ sym (bit-and-not x y i))

pub low-row-word : (w k i b : ℕ) → i ≤ k → k < w → bit_and b (1 * 2 ^ (k - i) % 2 ^ w - 1) * 2 ^ i % 2 ^ w ≡ low_row k i b
unfolding low_row
low-row-word w k i b h l =
    ap (λ (n : ℕ). bit_and b (n - 1) * 2 ^ i % 2 ^ w) (shifted_one w (k - i) (omega arith))
    ∙ ap (λ (n : ℕ). n * 2 ^ i % 2 ^ w) (and_mask b (k - i))
    ∙ shl_exact (k - i) i w (mod-lt b (pow_pos (k - i))) (omega arith)
    ∙ mul_comm (b % 2 ^ (k - i)) (2 ^ i)

-- ---- a row of the column sum, as a number of k + 1 bits

-- the top bit turned round
turned : (k s r : ℕ) → s < 2 → r < 2 ^ k → bit_xor (s * 2 ^ k + r) (2 ^ k) ≡ r + 2 ^ k * (1 - s)
turned k s r hs hr =
    let e : 2 ^ k ≡ 1 * 2 ^ k + 0 = omega arith in
    ap (bit_xor (s * 2 ^ k + r)) e ∙ xor_block k s 1 r 0 hr (pow_pos k) ∙ by s hs
  where
    by : (s : ℕ) → s < 2 → bit_xor s 1 * 2 ^ k + bit_xor r 0 ≡ r + 2 ^ k * (1 - s)
    by zero h = omega (arith, xor_zero_r r)
    by (suc zero) h = omega (arith, xor_zero_r r)
    by (suc (suc s)) h = absurd (omega arith)

cut-row : (w k i b : ℕ) → i ≤ k → k < w → bit_and (b * 2 ^ i % 2 ^ w) (2 ^ suc k - 1) ≡ bit b (k - i) * 2 ^ k + low_row k i b
unfolding low_row
cut-row w k i b h l =
    and_mask (b * 2 ^ i % 2 ^ w) (suc k)
    ∙ cut_twice (suc k) w (b * 2 ^ i) l
    ∙ ap (λ (n : ℕ). n % 2 ^ suc k) parts
    ∙ low (b / 2 ^ suc (k - i)) (suc k) (omega (arith, digits_lt {q = bit b (k - i)} {m = 2} (bit-lt b (k - i)) (row_lt k i (k - i) b (omega arith)), pow-suc 2 k))
  where
    algebra : (L H N s q : ℕ) → N ≡ H * 2 → L + H * s + H * 2 * q ≡ q * N + (s * H + L)
    algebra L H N s q e = omega (arith, ap (λ (x : ℕ). q * x) e)

    parts : b * 2 ^ i ≡ b / 2 ^ suc (k - i) * 2 ^ suc k + (bit b (k - i) * 2 ^ k + 2 ^ i * (b % 2 ^ (k - i)))
    parts = mul_comm b (2 ^ i) ∙ row-parts k i (k - i) b (omega arith) ∙ algebra _ (2 ^ k) (2 ^ suc k) _ (b / 2 ^ suc (k - i)) (pow-suc 2 k)

pub raised-word : (w k i b ones half : ℕ) → i ≤ k → k < w → ones ≡ 2 ^ (k + 1) - 1 → half ≡ 2 ^ k
    → bit_xor (bit_and (b * 2 ^ i % 2 ^ w) ones) half ≡ low_row k i b + 2 ^ k * (1 - bit b (k - i))
raised-word w k i b ones half h l e f =
    ap₂ (λ (x y : ℕ). bit_xor (bit_and (b * 2 ^ i % 2 ^ w) x) y) (e ∙ ap (λ (n : ℕ). 2 ^ n - 1) (add-one k)) f
    ∙ ap (λ (n : ℕ). bit_xor n (2 ^ k)) (cut-row w k i b h l)
    ∙ turned k (bit b (k - i)) (low_row k i b) (bit-lt b (k - i)) (low-row-lt k i b (omega arith))
