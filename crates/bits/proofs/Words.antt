-- Words cut to fewer bits, and numbers in the order of their bits. Assumes nothing.
--   cut_twice    a cut to v bits before a cut to w bits;  sub-cut   a wrapping difference, cut to w bits
--   bit-clear    the bits of a & !m in a word of v bits
--   low-le       the lowest bits in order
--   le-of-bits   whole numbers in order
--   or_cases     a set bit of m | n is one of m or of n
--   or-zero      numbers whose | is 0 are 0;  xor-zero   numbers whose ^ is 0 are equal
--   shifted-bit, shifted_one   a bit at place i of a word;  bit_word   bit k of a word as the code takes it
use mathlib.Core.Path.{◌≡◌, sym, ap, ◌∙◌}
use mathlib.Core.Logic.{◌⊎◌, inl, inr}
use Prim.Native.Nat.{ℕ, zero, suc, ◌+◌, ◌-◌, ◌*◌, ◌/◌, ◌%◌, ◌^◌, ◌≤◌, ◌<◌, min}
use native.Mathlib.Nat.{mod-one, mod-eq_of_lt, mod-add-mod, add-mod_right, add_assoc, mul-le-mul_right, one-mul}
use native.Mathlib.Omega.{arith}
use lib.Pow.{mod-mod-pow, shl_exact}
use lib.Bits.{bit_and, bit_or, bit_xor, and_le_l, and_le_r, or_add_and, xor_add_and, and_mask}
use Rattle.bits.specs.Bit.{bit}
use Rattle.bits.proofs.Bits.{bit-and, bit-or, bit-cases}
use Rattle.bits.proofs.Shifts.{mod-pow-suc}
use Rattle.bits.proofs.Constants.{bit-complement}

pub cut_twice : (w v n : ℕ) → w ≤ v → n % 2 ^ v % 2 ^ w ≡ n % 2 ^ w
cut_twice w v n h =
    let e : v ≡ v - w + w = omega arith in
    ap (λ (k : ℕ). n % 2 ^ k % 2 ^ w) e ∙ mod-mod-pow n (v - w) w

-- a wrapping difference d of x and y, as a sum
pub sub-cut : (w v d x y : ℕ) → w ≤ v → y < 2 ^ w → (d + y) % 2 ^ v ≡ x → d % 2 ^ w ≡ (x + (2 ^ w - 1 - y) + 1) % 2 ^ w
sub-cut w v d x y h l e =
    let g : d + y + (2 ^ w - 1 - y + 1) ≡ d + 2 ^ w = omega arith in
    sym (add-mod_right d (2 ^ w))
    ∙ ap (λ (n : ℕ). n % 2 ^ w) (sym g)
    ∙ sym (mod-add-mod (d + y) (2 ^ w) (2 ^ w - 1 - y + 1))
    ∙ ap (λ (n : ℕ). (n + (2 ^ w - 1 - y + 1)) % 2 ^ w) (sym (cut_twice w v (d + y) h))
    ∙ mod-add-mod ((d + y) % 2 ^ v) (2 ^ w) (2 ^ w - 1 - y + 1)
    ∙ ap (λ (n : ℕ). n % 2 ^ w) (ap (λ (n : ℕ). n + (2 ^ w - 1 - y + 1)) e ∙ sym (add_assoc x (2 ^ w - 1 - y) 1))

pub bit-clear : (v a m k : ℕ) → m < 2 ^ v → k < v → bit (bit_and a (2 ^ v - 1 - m)) k ≡ min (bit a k) (1 - bit m k)
bit-clear v a m k h l = bit-and a (2 ^ v - 1 - m) k ∙ ap (min (bit a k)) (bit-complement v m k h l)

pub low-le : (k n m : ℕ) → ((j : ℕ) → j < k → bit n j ≤ bit m j) → n % 2 ^ k ≤ m % 2 ^ k
low-le zero n m h = omega (arith, mod-one n, mod-one m)
low-le (suc k) n m h =
    let rest = low-le k n m (λ j l. h j (omega arith)) in
    omega (arith, mod-pow-suc n k, mod-pow-suc m k, mul-le-mul_right (2 ^ k) (h k (omega arith)))

pub le-of-bits : (w m n : ℕ) → m < 2 ^ w → n < 2 ^ w → ((k : ℕ) → k < w → bit m k ≤ bit n k) → m ≤ n
le-of-bits w m n hm hn h = omega (arith, low-le w m n h, mod-eq_of_lt hm, mod-eq_of_lt hn)

pub or_cases : (m n k : ℕ) → bit (bit_or m n) k ≡ 1 → (bit m k ≡ 1) ⊎ (bit n k ≡ 1)
or_cases m n k e = elim (bit-cases m k) [
  | inr f ↦ inl f
  | inl f ↦ inr (let o = bit-or m n k in omega arith)
]

pub or-zero : (m n : ℕ) → bit_or m n ≡ 0 → (m ≡ 0) × (n ≡ 0)
or-zero m n e = omega (arith, or_add_and m n, and_le_l m n, and_le_r m n)

pub xor-zero : (m n : ℕ) → bit_xor m n ≡ 0 → m ≡ n
xor-zero m n e = omega (arith, xor_add_and m n, and_le_l m n, and_le_r m n)

pub shifted-bit : (v u i : ℕ) → u < 2 → i < v → u * 2 ^ i % 2 ^ v ≡ u * 2 ^ i
shifted-bit v u i h l = shl_exact 1 i v h (omega arith)

pub shifted_one : (v i : ℕ) → i < v → 1 * 2 ^ i % 2 ^ v ≡ 2 ^ i
shifted_one v i l = shifted-bit v 1 i (omega arith) l ∙ one-mul (2 ^ i)

pub bit_word : (n k : ℕ) → bit_and (n / 2 ^ k) 1 ≡ bit n k
unfolding bit
bit_word n k = and_mask (n / 2 ^ k) 1
