-- Bit k of a sum with an incoming carry c, 0 or 1 (01, "Sums"), for every k. The carry is what a bit c more below bit 0 of both terms carries:
-- (a + b + c) * 2 is (a * 2 + c) + (b * 2 + c). Assumes nothing.
--   lowest c k a b    the exact sum of c and the lowest k + 1 bits of a and b
--   carry_in c k a b   what c and the k lowest bits of a and b carry into bit k, 0 or 1
use Rattle.std.proofs.Common.{◌≡◌, ℕ, suc, ◌+◌, ◌*◌, ◌/◌, ◌%◌, ◌^◌, ◌<◌, sym, ap, ◌∙◌, ap₂, pow-suc, arith, pow_pos}
use native.Mathlib.Nat.{mul-div-mul_right}
use lib.Arith.{digits_div, digits_mod, mod-mul}
use Rattle.bits.specs.Bit.{bit}
use Rattle.bits.proofs.Bits.{two_pos, bit-suc}
use Rattle.bits.proofs.Carries.{carry, carry_lt, sum-floor, bit-sum-floor}

abbrev pub lowest : ℕ → ℕ → ℕ → ℕ → ℕ
lowest c k a b = a % 2 ^ suc k + b % 2 ^ suc k + c

unfoldable pub carry_in : ℕ → ℕ → ℕ → ℕ → ℕ
carry_in c k a b = carry (suc k) (a * 2 + c) (b * 2 + c)

pub carry_in-lt : (c k a b : ℕ) → carry_in c k a b < 2
unfolding carry_in
carry_in-lt c k a b = carry_lt (suc k) (a * 2 + c) (b * 2 + c)

double-bit : (c a k : ℕ) → c < 2 → bit (a * 2 + c) (suc k) ≡ bit a k
double-bit c a k h = bit-suc (a * 2 + c) k ∙ ap (λ (x : ℕ). bit x k) (digits_div a h)

double-low : (c a k : ℕ) → c < 2 → (a * 2 + c) % 2 ^ suc k ≡ a % 2 ^ k * 2 + c
double-low c a k h =
    ap (λ (x : ℕ). (a * 2 + c) % x) (pow-suc 2 k)
    ∙ mod-mul (a * 2 + c) (pow_pos k) two_pos
    ∙ ap₂ (λ (x y : ℕ). x % 2 ^ k * 2 + y) (digits_div a h) (digits_mod a h)

double-floor : (c k a b : ℕ) → c < 2 → lowest c k a b / 2 ^ k ≡ ((a * 2 + c) % 2 ^ suc (suc k) + (b * 2 + c) % 2 ^ suc (suc k)) / 2 ^ suc k
double-floor c k a b h =
    let e : lowest c k a b * 2 ≡ (a * 2 + c) % 2 ^ suc (suc k) + (b * 2 + c) % 2 ^ suc (suc k) =
    omega (arith, double-low c a (suc k) h, double-low c b (suc k) h) in
    sym (mul-div-mul_right (lowest c k a b) (2 ^ k) two_pos) ∙ ap₂ (λ (x y : ℕ). x / y) e (sym (pow-suc 2 k))

-- the floor is the two bits and the carry
pub floor-carry : (c k a b : ℕ) → c < 2 → lowest c k a b / 2 ^ k ≡ bit a k + bit b k + carry_in c k a b
unfolding carry_in
floor-carry c k a b h =
    double-floor c k a b h
    ∙ sum-floor (suc k) (a * 2 + c) (b * 2 + c)
    ∙ ap₂ (λ (x y : ℕ). x + y + carry_in c k a b) (double-bit c a k h) (double-bit c b k h)

-- bit k of the sum is the floor modulo 2
pub floor-bit : (c k a b : ℕ) → c < 2 → bit (a + b + c) k ≡ lowest c k a b / 2 ^ k % 2
floor-bit c k a b h =
    let e : (a + b + c) * 2 + 0 ≡ (a * 2 + c) + (b * 2 + c) = omega arith in
    sym (double-bit 0 (a + b + c) k two_pos)
    ∙ ap (λ (x : ℕ). bit x (suc k)) e
    ∙ bit-sum-floor (a * 2 + c) (b * 2 + c) (suc k)
    ∙ ap (λ (x : ℕ). x % 2) (sym (double-floor c k a b h))
