-- From one pair of factors to another, a bit a step: where the floors of the column sum differ, bit k of the product takes both values. Assumes nothing.
--   SameFloor k a b c d   the column sums at (a, b) and (c, d) have one floor
--   Other k p q n         factors that p and q cover, whose product has another bit k than n
use mathlib.Core.Path.{◌≡◌, refl, sym, ap, ◌∙◌}
use mathlib.Core.Logic.{◌⊎◌, inl, inr, ⊎_elim, ◌≢◌}
use Prim.Native.Nat.{ℕ, zero, suc, ◌+◌, ◌*◌, ◌/◌, ◌%◌, ◌^◌, ◌≤◌, ◌<◌}
use native.Mathlib.Nat.{mod-lt, mul_comm, div-add-mod', lt_of_mul-lt-mul_right}
use native.Mathlib.Decide.{ℕ_discrete}
use native.Mathlib.Omega.{arith}
use lib.Pow.{pow_pos}
use Rattle.bits.specs.Bit.{bit}
use Rattle.vectors.specs.Row.{Row, Covers}
use Rattle.products.specs.ColumnSum.{terms_below, one_pairs}
use Rattle.products.proofs.Columns.{product-bit, terms-swap, pairs-swap, terms-bits, pairs-bits}
use Rattle.products.proofs.Flips.{flip}
use Rattle.products.proofs.Hybrids.{hybrid, hybrid-low, hybrid-zero, hybrid-step, hybrid-covers}

abbrev pub SameFloor : ℕ → ℕ → ℕ → ℕ → ℕ → Type 0
SameFloor k a b c d = terms_below k a b / 2 ^ k + one_pairs k c d ≡ terms_below k c d / 2 ^ k + one_pairs k a b

-- one floor, one bit k
pub same_bit : (k a b c d : ℕ) → SameFloor k a b c d → bit (a * b) k ≡ bit (c * d) k
same_bit k a b c d e =
    product-bit k a b
    ∙ (let f : (terms_below k a b / 2 ^ k + one_pairs k a b) % 2 ≡ (terms_below k c d / 2 ^ k + one_pairs k c d) % 2 = omega arith in f)
    ∙ sym (product-bit k c d)

floor-step : (p q c d H : ℕ) → zero < H → q + H * c ≤ p + H * d + H → q / H + c ≤ p / H + d + 1
floor-step p q c d H pos h =
    let lt : q / H + c < p / H + d + 2 =
    lt_of_mul-lt-mul_right H {m = q / H + c} {n = p / H + d + 2} (omega (arith, h, div-add-mod' p H, div-add-mod' q H, mod-lt p pos)) in
    omega arith

-- floors q n - c n that change by at most 1 a step: one has another parity than the first, or the last equals the first
between : (q c : ℕ → ℕ) (N : ℕ)
    → ((n : ℕ) → n < N → (q (suc n) + c n ≤ q n + c (suc n) + 1) × (q n + c (suc n) ≤ q (suc n) + c n + 1))
    → ((n : ℕ) × (n ≤ N) × ((q n + c n) % 2 ≢ (q 0 + c 0) % 2)) ⊎ (q N + c 0 ≡ q 0 + c N)
between q c zero h = inr refl
between q c (suc N) h = go (ℕ_discrete ((q (suc N) + c (suc N)) % 2) ((q 0 + c 0) % 2)) (between q c N (λ n l. h n (omega arith)))
  where
    go : Dec ((q (suc N) + c (suc N)) % 2 ≡ (q 0 + c 0) % 2)
        → ((n : ℕ) × (n ≤ N) × ((q n + c n) % 2 ≢ (q 0 + c 0) % 2)) ⊎ (q N + c 0 ≡ q 0 + c N)
        → ((n : ℕ) × (n ≤ suc N) × ((q n + c n) % 2 ≢ (q 0 + c 0) % 2)) ⊎ (q (suc N) + c 0 ≡ q 0 + c (suc N))
    go (no f) r = inl (suc N, omega arith, f)
    go (yes e) (inl t) = inl (t.0, omega (arith, t.1), t.2)
    go (yes e) (inr d) = inr (omega (arith, h N (omega arith)))

-- ---- along the first factor

side : (k a c b : ℕ) → ((i : ℕ) × (i ≤ suc k) × (bit (hybrid a c i * b) k ≢ bit (a * b) k)) ⊎ SameFloor k a b c b
side k a c b =
    ⊎_elim
    (λ t. inl (t.0, t.1, λ e. t.2 (sym (product-bit k (hybrid a c t.0) b) ∙ e ∙ product-bit k a b ∙ ap (λ (x : ℕ). (q x + n x) % 2) (sym (hybrid-zero a c)))))
    (λ e. inr (omega (
      arith,
      e,
      ap q (hybrid-zero a c),
      ap n (hybrid-zero a c),
      ap (λ (x : ℕ). x / 2 ^ k) (terms-bits k (hybrid a c (suc k)) c b last),
      pairs-bits k (hybrid a c (suc k)) c b last,
    )))
    (between (λ i. q (hybrid a c i)) (λ i. n (hybrid a c i)) (suc k)
    (λ i l.
    let s = flip k (hybrid a c i) (hybrid a c (suc i)) b i (omega arith) (hybrid-step k a c i) in
    (floor-step _ _ _ _ (2 ^ k) (pow_pos k) s.0, floor-step _ _ _ _ (2 ^ k) (pow_pos k) s.1)))
  where
    q : ℕ → ℕ
    q x = terms_below k x b / 2 ^ k

    n : ℕ → ℕ
    n x = one_pairs k x b

    last : (j : ℕ) → j ≤ k → bit (hybrid a c (suc k)) j ≡ bit c j
    last j l = hybrid-low a c (suc k) j (omega arith)

-- ---- along both

abbrev pub Other : ℕ → Row → Row → ℕ → Type 0
Other k p q n = (x : ℕ) × (y : ℕ) × Covers p x × Covers q y × (bit (x * y) k ≢ n)

pub floors-differ : (k : ℕ) (p q : Row) → k < p.width → k < q.width → (a b c d : ℕ)
    → Covers p a → Covers q b → Covers p c → Covers q d → ¬ SameFloor k a b c d → Other k p q (bit (a * b) k)
floors-differ k p q hp hq a b c d ca cb cc cd f =
    ⊎_elim
    (λ t. (hybrid a c t.0, b, hybrid-covers p a c t.0 (omega (arith, t.1)) ca cc, cb, t.2))
    (λ e. ⊎_elim (λ t. second e t) (λ g. absurd (f (omega (arith, e, swapped g)))) (side k b d c))
    (side k a c b)
  where
    swapped : SameFloor k b c d c → SameFloor k c b c d
    swapped g =
        omega (arith, g, ap (λ (x : ℕ). x / 2 ^ k) (terms-swap k b c), ap (λ (x : ℕ). x / 2 ^ k) (terms-swap k d c), pairs-swap k b c, pairs-swap k d c)

    -- the floors at (a, b) and (c, b) agree, so the bits do
    second : SameFloor k a b c b → (i : ℕ) × (i ≤ suc k) × (bit (hybrid b d i * c) k ≢ bit (b * c) k) → Other k p q (bit (a * b) k)
    second e t = (
      c,
      hybrid b d t.0,
      cc,
      hybrid-covers q b d t.0 (omega (arith, t.1)) cb cd,
      λ g. t.2 (ap (λ (x : ℕ). bit x k) (mul_comm (hybrid b d t.0) c) ∙ g ∙ same_bit k a b c b e ∙ ap (λ (x : ℕ). bit x k) (mul_comm c b)),
    )
