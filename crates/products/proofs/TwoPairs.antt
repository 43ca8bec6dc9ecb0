-- Two column pairs unknown on both sides: of seven choices of their four bits two differ at bit k (theorem 4 of document 002). Assumes nothing.
-- With p1 + q2 = p2 + q1 = k, H = 2 ^ k and A, B with 0 at these bits, the choices s1 s2 t1 t2 are 0000, 1000, 0010, 1100, 0011, 1001 and 0110. Were bit k the same for all, the first
-- five would keep A * B's digit below H from passing H, and the last two, which have an H more, would need it to pass: their sums contradict each other.
use mathlib.Core.Path.{◌≡◌, refl, sym, ap, ◌∙◌}
use mathlib.Core.Logic.{◌⊎◌, inl, inr, ⊎_elim, ◌≢◌}
use Prim.Native.Nat.{ℕ, suc, ◌+◌, ◌-◌, ◌*◌, ◌/◌, ◌%◌, ◌^◌, ◌≤◌, ◌<◌}
use native.Mathlib.Nat.{mod-lt, div-add-mod', mul-zero}
use native.Mathlib.Decide.{dec_lt}
use native.Mathlib.Omega.{arith}
use lib.Arith.{digits_div}
use lib.Pow.{pow-add}
use Rattle.bits.specs.Bit.{bit}
use Rattle.products.proofs.LowRows.{row-parts, row_lt}

-- ---- a digit past its base changes the parity of the quotient

module _ (H r z c u : ℕ) (hc : c < H) (hu : u < H) where
  quotient : (n e : ℕ) → n ≡ (r + z * 2 + e) * H + (c + u) → c + u < H → n / H ≡ r + z * 2 + e
  quotient n e w h = ap (λ (x : ℕ). x / H) w ∙ digits_div (r + z * 2 + e) h

  carried : (n e : ℕ) → n ≡ (r + z * 2 + e) * H + (c + u) → H ≤ c + u → n / H ≡ r + z * 2 + e + 1
  carried n e w h = ap (λ (x : ℕ). x / H) (w ∙ regroup) ∙ digits_div (r + z * 2 + e + 1) {m = H} {r = c + u - H} (omega arith)
    where
      regroup : (r + z * 2 + e) * H + (c + u) ≡ (r + z * 2 + e + 1) * H + (c + u - H)
      regroup = omega arith

  -- no carry, or another parity
  plain : (n : ℕ) → n ≡ (r + z * 2 + 0) * H + (c + u) → (n / H % 2 ≢ r % 2) ⊎ (c + u < H)
  plain n w = elim (dec_lt (c + u) H) [ yes h ↦ inr h | no f ↦ inl (omega (arith, carried n 0 w (omega arith))) ]

  -- with one H more: a carry, or another parity
  extra : (n : ℕ) → n ≡ (r + z * 2 + 1) * H + (c + u) → (n / H % 2 ≢ r % 2) ⊎ (H ≤ c + u)
  extra n w = elim (dec_lt (c + u) H) [ yes h ↦ inl (omega (arith, quotient n 1 w h)) | no f ↦ inr (omega arith) ]

-- ---- over plain numbers: P1, P2, Q1, Q2 are the powers, H = P1 * Q2 = P2 * Q1

-- some choice of the four bits has another f than all 0
abbrev pub Differs : (ℕ → ℕ) → (A B P1 P2 Q1 Q2 : ℕ) → Type 0
Differs f A B P1 P2 Q1 Q2 =
    (s1 : ℕ) × (s2 : ℕ) × (t1 : ℕ) × (t2 : ℕ) × (s1 < 2) × (s2 < 2) × (t1 < 2) × (t2 < 2)
    × (f ((A + s1 * P1 + s2 * P2) * (B + t1 * Q1 + t2 * Q2)) ≢ f (A * B))

module _ (A B P1 P2 Q1 Q2 H : ℕ) (h12 : P1 * Q2 ≡ H) (h21 : P2 * Q1 ≡ H)
    (d1 d2 e1 e2 x1 x2 y1 y2 : ℕ)
    (hd1 : P1 * B ≡ d1 + H * 2 * x1) (hd2 : P2 * B ≡ d2 + H * 2 * x2)
    (he1 : Q1 * A ≡ e1 + H * 2 * y1) (he2 : Q2 * A ≡ e2 + H * 2 * y2)
    (ld1 : d1 < H) (ld2 : d2 < H) (le1 : e1 < H) (le2 : e2 < H) where
  -- with A * B as r * H + c
  module _ (r c : ℕ) (w : A * B ≡ r * H + c) (hr : A * B / H ≡ r) (hc : c < H) where
    differs : (s1 s2 t1 t2 : ℕ) → s1 < 2 → s2 < 2 → t1 < 2 → t2 < 2
        → ((A + s1 * P1 + s2 * P2) * (B + t1 * Q1 + t2 * Q2) / H % 2 ≢ r % 2) → Differs (λ n. n / H % 2) A B P1 P2 Q1 Q2
    differs s1 s2 t1 t2 a b c' d f = (s1, s2, t1, t2, a, b, c', d, λ g. f (g ∙ ap (λ (x : ℕ). x % 2) hr))

    seven_at : Differs (λ n. n / H % 2) A B P1 P2 Q1 Q2
    seven_at =
        ⊎_elim (differs 1 0 0 0 (omega arith) (omega arith) (omega arith) (omega arith))
        (λ k1. ⊎_elim (differs 0 0 1 0 (omega arith) (omega arith) (omega arith) (omega arith))
        (λ k2. ⊎_elim (differs 1 1 0 0 (omega arith) (omega arith) (omega arith) (omega arith))
        (λ k3. ⊎_elim (differs 0 0 1 1 (omega arith) (omega arith) (omega arith) (omega arith))
        (λ k4. ⊎_elim (differs 1 0 0 1 (omega arith) (omega arith) (omega arith) (omega arith))
        (λ k5. ⊎_elim (differs 0 1 1 0 (omega arith) (omega arith) (omega arith) (omega arith))
        (λ k6. absurd (omega arith))
        (extra H r (x2 + y1) (c + e1) d2 k2 ld2 ((A + 0 * P1 + 1 * P2) * (B + 1 * Q1 + 0 * Q2)) (omega arith)))
        (extra H r (x1 + y2) (c + d1) e2 k1 le2 ((A + 1 * P1 + 0 * P2) * (B + 0 * Q1 + 1 * Q2)) (omega arith)))
        (plain H r (y1 + y2) (c + e1) e2 k2 le2 ((A + 0 * P1 + 0 * P2) * (B + 1 * Q1 + 1 * Q2)) (omega arith)))
        (plain H r (x1 + x2) (c + d1) d2 k1 ld2 ((A + 1 * P1 + 1 * P2) * (B + 0 * Q1 + 0 * Q2)) (omega arith)))
        (plain H r y1 c e1 hc le1 ((A + 0 * P1 + 0 * P2) * (B + 1 * Q1 + 0 * Q2)) (omega arith)))
        (plain H r x1 c d1 hc ld1 ((A + 1 * P1 + 0 * P2) * (B + 0 * Q1 + 0 * Q2)) (omega arith))

  seven : Differs (λ n. n / H % 2) A B P1 P2 Q1 Q2
  seven = seven_at (A * B / H) (A * B % H) (sym (div-add-mod' (A * B) H)) refl (mod-lt (A * B) (omega arith))

-- ---- the theorem

pub theorem-4 : (k p1 p2 q1 q2 A B : ℕ) → p1 + q2 ≡ k → p2 + q1 ≡ k
    → bit A p1 ≡ 0 → bit A p2 ≡ 0 → bit B q1 ≡ 0 → bit B q2 ≡ 0
    → Differs (λ n. bit n k) A B (2 ^ p1) (2 ^ p2) (2 ^ q1) (2 ^ q2)
unfolding bit
theorem-4 k p1 p2 q1 q2 A B e1 e2 a1 a2 b1 b2 =
    seven A B (2 ^ p1) (2 ^ p2) (2 ^ q1) (2 ^ q2) (2 ^ k)
    (sym (pow-add 2 p1 q2) ∙ ap (λ (x : ℕ). 2 ^ x) e1) (sym (pow-add 2 p2 q1) ∙ ap (λ (x : ℕ). 2 ^ x) e2)
    (2 ^ p1 * (B % 2 ^ q2)) (2 ^ p2 * (B % 2 ^ q1)) (2 ^ q1 * (A % 2 ^ p2)) (2 ^ q2 * (A % 2 ^ p1))
    (B / 2 ^ suc q2) (B / 2 ^ suc q1) (A / 2 ^ suc p2) (A / 2 ^ suc p1)
    (clear p1 q2 B e1 b2) (clear p2 q1 B e2 b1) (clear q1 p2 A (omega arith) a2) (clear q2 p1 A (omega arith) a1)
    (row_lt k p1 q2 B e1) (row_lt k p2 q1 B e2) (row_lt k q1 p2 A (omega arith)) (row_lt k q2 p1 A (omega arith))
  where
    -- the row has nothing in column k
    clear : (i m b : ℕ) → i + m ≡ k → bit b m ≡ 0 → 2 ^ i * b ≡ 2 ^ i * (b % 2 ^ m) + 2 ^ k * 2 * (b / 2 ^ suc m)
    clear i m b e z = omega (arith, row-parts k i m b e, ap (λ (x : ℕ). 2 ^ k * x) z, mul-zero (2 ^ k))
