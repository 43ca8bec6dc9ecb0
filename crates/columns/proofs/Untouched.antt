-- Columns below every unknown bit's reach: bit i of one operand adds to no column below i + j, where the other operand is a multiple of 2 ^ j. Assumes nothing.
use Rattle.std.proofs.Common.{◌≡◌, ℕ, zero, suc, ◌+◌, ◌*◌, ◌/◌, ◌%◌, ◌^◌, ◌<◌, ◌≤◌, sym, ap, ◌∙◌, ap₂, inl, inr, mod-lt, mul_comm, arith, pow_pos, pow-add}
use native.Mathlib.Nat.{mul-add-mod_self_right}
use native.Mathlib.Decide.{dec_lt}
use lib.Pow.{split}
use lib.Bits.{bit_or}
use lib.Count.{count_trailing_zeros, trailing_le}
use Rattle.bits.specs.Bit.{bit}
use Rattle.bits.proofs.Bits.{bit-zero, bit-suc, bit-cases, bit-ext, bit-above, bit-or, bit-of-zero}
use Rattle.bits.proofs.Shifts.{bit-mod, bit-same-low}
use Rattle.bits.proofs.LowestBit.{trailing-bit}
use Rattle.vectors.specs.Row.{row, WellFormed, Covers}
use Rattle.columns.specs.Settled.{KnownBelow}
use Rattle.columns.proofs.ProductMask.{product-steady}

-- a factor that is a multiple of 2 ^ j lifts an agreement of the other factors below 2 ^ i to one below 2 ^ (i + j)
pub lifted : (a x b i j : ℕ) → a % 2 ^ i ≡ x % 2 ^ i → b % 2 ^ j ≡ 0 → (a * b) % 2 ^ (i + j) ≡ (x * b) % 2 ^ (i + j)
lifted a x b i j e f = cut a ∙ ap (λ (r : ℕ). r * (b / 2 ^ j * 2 ^ j) % 2 ^ (i + j)) e ∙ sym (cut x)
  where
    multiple : b ≡ b / 2 ^ j * 2 ^ j
    multiple = let s = split b j in omega arith

    algebra : (q p r c d : ℕ) → (q * p + r) * (c * d) ≡ q * c * (p * d) + r * (c * d)
    algebra q p r c d = omega arith

    cut : (n : ℕ) → (n * b) % 2 ^ (i + j) ≡ n % 2 ^ i * (b / 2 ^ j * 2 ^ j) % 2 ^ (i + j)
    cut n =
        ap (λ (y : ℕ). y % 2 ^ (i + j)) (ap₂ (λ (y z : ℕ). y * z) (sym (split n i)) multiple ∙ algebra (n / 2 ^ i) (2 ^ i) (n % 2 ^ i) (b / 2 ^ j) (2 ^ j))
        ∙ ap (λ (y : ℕ). (n / 2 ^ i * (b / 2 ^ j) * y + n % 2 ^ i * (b / 2 ^ j * 2 ^ j)) % 2 ^ (i + j)) (sym (pow-add 2 i j))
        ∙ mul-add-mod_self_right (n / 2 ^ i * (b / 2 ^ j)) (2 ^ (i + j)) (n % 2 ^ i * (b / 2 ^ j * 2 ^ j))

pub low-zero : (n i : ℕ) → ((k : ℕ) → k < i → bit n k ≡ 0) → n % 2 ^ i ≡ 0
low-zero n i h = bit-ext i (n % 2 ^ i) 0 (mod-lt n (pow_pos i)) (pow_pos i) (λ k l. bit-mod n i k l ∙ h k l ∙ sym (bit-of-zero k))

-- ---- one operand

module _ (w m v : ℕ) (F : WellFormed (row w m v)) (n : ℕ) (C : Covers (row w m v) n) where
  low_bit : (k : ℕ) → bit m k ≡ 0 → bit n k ≡ bit v k
  low_bit k e = elim (dec_lt k w) [
    | yes l ↦ C.agrees k l e
    | no l ↦ bit-above w n k C.below (omega arith) ∙ sym (bit-above w v k F.value_below (omega arith))
  ]

  -- below the lowest unknown bit
  low_same : (i : ℕ) → ((k : ℕ) → k < i → bit m k ≡ 0) → n % 2 ^ i ≡ v % 2 ^ i
  low_same i h =
      bit-ext i (n % 2 ^ i) (v % 2 ^ i) (mod-lt n (pow_pos i)) (mod-lt v (pow_pos i))
      (λ k l. bit-mod n i k l ∙ low_bit k (h k l) ∙ sym (bit-mod v i k l))

  -- below the lowest bit that can be set
  low-none : (j : ℕ) → ((k : ℕ) → k < j → bit (bit_or m v) k ≡ 0) → n % 2 ^ j ≡ 0
  low-none j h = low-zero n j (λ k l. let o = bit-or m v k in let z = h k l in low_bit k (omega arith) ∙ omega arith)

-- ---- both

-- the columns in which x times z has no bit are those in which no bit of x meets one of z: one factor has its lowest i bits clear, the other its lowest j
abbrev Zeros : ℕ → ℕ → Type 0
Zeros i n = (k : ℕ) → k < i → bit n k ≡ 0

abbrev Shared : ℕ → ℕ → ℕ → Type 0
Shared r x z = (i : ℕ) × (j : ℕ) × (r ≤ i + j) × Zeros i x × Zeros j z

next-zero : (n i : ℕ) → bit n 0 ≡ 0 → Zeros i (n / 2) → Zeros (suc i) n
next-zero n i e h zero l = e
next-zero n i e h (suc k) l = bit-suc n k ∙ h k (omega arith)

-- an even product without its last bit
halved : (n y r : ℕ) → n ≡ 2 * y → Zeros (suc r) n → Zeros r y
halved n y r e h k l = let d : y ≡ n / 2 = omega arith in ap (λ (x : ℕ). bit x k) d ∙ sym (bit-suc n k) ∙ h (suc k) (omega arith)

shared_zeros : (r x z : ℕ) → Zeros r (x * z) → Shared r x z
shared_zeros zero x z h = (0, 0, omega arith, (λ k l. absurd (omega arith)), (λ k l. absurd (omega arith)))
shared_zeros (suc r) x z h = elim (bit-cases x 0) [
  | inl e ↦
      let (i, j, l, p, q) = shared_zeros r (x / 2) z (halved (x * z) (x / 2 * z) r (ap (λ (n : ℕ). n * z) (twice x e) ∙ double-left (x / 2) z) h) in
      (suc i, j, omega arith, next-zero x i e p, q)
  | inr e ↦ elim (bit-cases z 0) [
    | inl f ↦
        let (i, j, l, p, q) = shared_zeros r x (z / 2) (halved (x * z) (x * (z / 2)) r (ap (λ (n : ℕ). x * n) (twice z f) ∙ double-right x (z / 2)) h) in
        (i, suc j, omega arith, p, next-zero z j f q)
    | inr f ↦
        let g = ap₂ (λ (m n : ℕ). m * n) (odd x e) (odd z f) ∙ both-odd (x / 2) (z / 2) in
        let o = bit-zero (x * z) in
        let u = h 0 (omega arith) in
        absurd (omega arith)
  ]
]
  where
    twice : (n : ℕ) → bit n 0 ≡ 0 → n ≡ 2 * (n / 2)
    twice n e = let d = bit-zero n in omega arith

    odd : (n : ℕ) → bit n 0 ≡ 1 → n ≡ 2 * (n / 2) + 1
    odd n e = let d = bit-zero n in omega arith

    double-left : (m n : ℕ) → 2 * m * n ≡ 2 * (m * n)
    double-left m n = omega arith

    double-right : (m n : ℕ) → m * (2 * n) ≡ 2 * (m * n)
    double-right m n = omega arith

    both-odd : (m n : ℕ) → (2 * m + 1) * (2 * n + 1) ≡ 2 * (2 * (m * n) + m + n) + 1
    both-odd m n = omega arith

pub untouched : (ma va mb vb r : ℕ) → Zeros r (ma * bit_or mb vb) → Zeros r (mb * bit_or ma va) → KnownBelow ma va mb vb r
untouched ma va mb vb r p q w F k l h = product-steady w ma va mb vb k h (bit (va * vb) k) (λ a b ca cb. first a b ca cb ∙ second b cb)
  where
    first : (a b : ℕ) → Covers (row w ma va) a → Covers (row w mb vb) b → bit (a * b) k ≡ bit (va * b) k
    first a b ca cb =
        let (i, j, g, x, y) = shared_zeros r ma (bit_or mb vb) p in
        bit-same-low (a * b) (va * b) (i + j) k (omega arith)
        (lifted a va b i j (low_same w ma va F.first a ca i x) (low-none w mb vb F.second b cb j y))

    second : (b : ℕ) → Covers (row w mb vb) b → bit (va * b) k ≡ bit (va * vb) k
    second b cb =
        let (i, j, g, x, y) = shared_zeros r mb (bit_or ma va) q in
        ap (λ (n : ℕ). bit n k) (mul_comm va b)
        ∙ bit-same-low (b * va) (vb * va) (i + j) k (omega arith)
        (lifted b vb va i j (low_same w mb vb F.second b cb i x) (low-zero va j (λ t u. let o = bit-or ma va t in let z = y t u in omega arith)))
        ∙ ap (λ (n : ℕ). bit n k) (mul_comm vb va)

-- the products cut to a word, and the lowest bit that one of them has
pub untouched-word : (ma va mb vb x y : ℕ) → x ≡ ma * bit_or mb vb % 2 ^ 32 → y ≡ mb * bit_or ma va % 2 ^ 32
    → KnownBelow ma va mb vb (count_trailing_zeros 32 (bit_or x y))
untouched-word ma va mb vb x y e f =
    untouched ma va mb vb (count_trailing_zeros 32 (bit_or x y)) (λ k l. at x (ma * bit_or mb vb) k e l (clear k l).0)
    (λ k l. at y (mb * bit_or ma va) k f l (clear k l).1)
  where
    clear : (k : ℕ) → k < count_trailing_zeros 32 (bit_or x y) → (bit x k ≡ 0) × (bit y k ≡ 0)
    clear k l = let z = trailing-bit 32 (bit_or x y) k l in let o = bit-or x y k in (omega arith, omega arith)

    at : (n m k : ℕ) → n ≡ m % 2 ^ 32 → k < count_trailing_zeros 32 (bit_or x y) → bit n k ≡ 0 → bit m k ≡ 0
    at n m k g l z = sym (bit-mod m 32 k (let t = trailing_le 32 (bit_or x y) in omega arith)) ∙ ap (λ (i : ℕ). bit i k) (sym g) ∙ z
