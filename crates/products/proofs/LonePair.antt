-- The one column pair that is unknown on both sides: what its two bits change (document 002, equations 27 to 29). Assumes nothing.
use mathlib.Core.Path.{◌≡◌, sym, ap, ap₂, ◌∙◌, subst}
use mathlib.Core.Logic.{◌⊎◌, inl, inr}
use Prim.Native.Nat.{ℕ, ◌+◌, ◌-◌, ◌*◌, ◌%◌, ◌^◌, ◌≤◌, ◌<◌}
use native.Mathlib.Omega.{arith}
use Rattle.bits.specs.Bit.{bit}
use Rattle.products.specs.ColumnSum.{terms_below, one_pairs}
use Rattle.products.specs.Factors.{low_row}
use Rattle.products.proofs.LowRows.{low-row-lt}
use Rattle.products.proofs.Columns.{lower, pair, terms-swap, pairs-swap}
use Rattle.products.proofs.SetBits.{set_at, set_other, set-low}
use Rattle.products.proofs.Flips.{SumLe, AgreeBut, point-terms, point-pairs}
use Rattle.products.proofs.ExtremeBits.{two-ind}

-- ---- one bit set

module _ (k i j A s b : ℕ) (e : i + j ≡ k) (off : bit A i ≡ 0) (hs : s < 2) where
  agree : AgreeBut k i A (A + s * 2 ^ i)
  agree x l d = sym (set_other A i s off hs x d)

  lower-at : (n x : ℕ) → bit n i ≡ x → lower k n b i ≡ x * low_row k i b
  unfolding lower
  lower-at n x h = ap (λ (y : ℕ). y * low_row k i b) h

  pair-at : (n x : ℕ) → bit n i ≡ x → pair k n b i ≡ x * bit b j
  unfolding pair
  pair-at n x h =
      let d : k - i ≡ j = omega arith in
      ap₂ (λ (y z : ℕ). y * bit b z) h d

  set-terms : terms_below k (A + s * 2 ^ i) b ≡ terms_below k A b + s * low_row k i b
  set-terms =
      omega (arith, point-terms k A (A + s * 2 ^ i) b i (omega arith) agree, lower-at A 0 off, lower-at (A + s * 2 ^ i) s (set_at A i s off hs))

  set-pairs : one_pairs k (A + s * 2 ^ i) b ≡ one_pairs k A b + s * bit b j
  set-pairs =
      omega (arith, point-pairs k A (A + s * 2 ^ i) b i (omega arith) agree, pair-at A 0 off, pair-at (A + s * 2 ^ i) s (set_at A i s off hs))

-- ---- both bits: for rows p and q below H, s and t are any bits

-- both 1, or both 0, make the sum least (equation 28)
least-case : (p q H u s t : ℕ) → ((u ≡ 1) × (p + q ≤ H)) ⊎ ((u ≡ 0) × (H ≤ p + q)) → p < H → q < H → s < 2 → t < 2
    → u * p + u * q + H * (s * t) ≤ s * p + t * q + H * (u * u)
least-case p q H u s t h lp lq hs ht =
    elim h [
      | inl e ↦ subst (λ (u : ℕ). Claim u s t) (sym e.0) (all 1 (omega arith) (omega arith) (omega arith) (omega arith))
      | inr e ↦ subst (λ (u : ℕ). Claim u s t) (sym e.0) (all 0 (omega arith) (omega arith) (omega arith) (omega arith))
    ]
  where
    Claim : ℕ → ℕ → ℕ → Type 0
    Claim u s t = u * p + u * q + H * (s * t) ≤ s * p + t * q + H * (u * u)

    all : (u : ℕ) → Claim u 0 0 → Claim u 0 1 → Claim u 1 0 → Claim u 1 1 → Claim u s t
    all u a b c d = two-ind (λ (s : ℕ). Claim u s t) (two-ind (λ (t : ℕ). Claim u 0 t) a b t ht) (two-ind (λ (t : ℕ). Claim u 1 t) c d t ht) s hs

-- the one or the other makes it greatest (equation 29)
greatest-case : (p q H u v s t : ℕ) → ((u ≡ 1) × (v ≡ 0) × (q ≤ p)) ⊎ ((u ≡ 0) × (v ≡ 1) × (p ≤ q)) → p < H → q < H → s < 2 → t < 2
    → s * p + t * q + H * (u * v) ≤ u * p + v * q + H * (s * t)
greatest-case p q H u v s t h lp lq hs ht =
    elim h [
      | inl e ↦ subst (λ (u : ℕ). Claim u v s t) (sym e.0) (subst (λ (v : ℕ). Claim 1 v s t) (sym e.1) (all 1 0 (omega arith) (omega arith) (omega arith) (omega arith)))
      | inr e ↦ subst (λ (u : ℕ). Claim u v s t) (sym e.0) (subst (λ (v : ℕ). Claim 0 v s t) (sym e.1) (all 0 1 (omega arith) (omega arith) (omega arith) (omega arith)))
    ]
  where
    Claim : ℕ → ℕ → ℕ → ℕ → Type 0
    Claim u v s t = s * p + t * q + H * (u * v) ≤ u * p + v * q + H * (s * t)

    all : (u v : ℕ) → Claim u v 0 0 → Claim u v 0 1 → Claim u v 1 0 → Claim u v 1 1 → Claim u v s t
    all u v a b c d = two-ind (λ (s : ℕ). Claim u v s t) (two-ind (λ (t : ℕ). Claim u v 0 t) a b t ht) (two-ind (λ (t : ℕ). Claim u v 1 t) c d t ht) s hs

module _ (k i j A B : ℕ) (e : i + j ≡ k) (off_a : bit A i ≡ 0) (off_b : bit B j ≡ 0) where
  -- the change by the pair's two bits s and t (equation 27)
  module _ (s t : ℕ) (hs : s < 2) (ht : t < 2) where
    row_kept : low_row k i (B + t * 2 ^ j) ≡ low_row k i B
    unfolding low_row
    row_kept =
        let d : k - i ≡ j = omega arith in
        ap (λ (x : ℕ). 2 ^ i * ((B + t * 2 ^ j) % 2 ^ x)) d ∙ ap (λ (x : ℕ). 2 ^ i * x) (set-low B j t off_b ht) ∙ ap (λ (x : ℕ). 2 ^ i * (B % 2 ^ x)) (sym d)

    pair-terms : terms_below k (A + s * 2 ^ i) (B + t * 2 ^ j) ≡ terms_below k A B + s * low_row k i B + t * low_row k j A
    pair-terms =
        omega (
          arith,
          set-terms k i j A s (B + t * 2 ^ j) e off_a hs,
          ap (λ (x : ℕ). s * x) row_kept,
          terms-swap k A (B + t * 2 ^ j),
          set-terms k j i B t A (omega arith) off_b ht,
          terms-swap k B A,
        )

    pair-pairs : one_pairs k (A + s * 2 ^ i) (B + t * 2 ^ j) ≡ one_pairs k A B + s * t
    pair-pairs =
        omega (
          arith,
          set-pairs k i j A s (B + t * 2 ^ j) e off_a hs,
          ap (λ (x : ℕ). s * x) (set_at B j t off_b ht),
          pairs-swap k A (B + t * 2 ^ j),
          set-pairs k j i B t A (omega arith) off_b ht,
          ap (λ (x : ℕ). t * x) off_a,
          pairs-swap k B A,
        )

  pair-le : (s t u v : ℕ) → s < 2 → t < 2 → u < 2 → v < 2
      → s * low_row k i B + t * low_row k j A + 2 ^ k * (u * v) ≤ u * low_row k i B + v * low_row k j A + 2 ^ k * (s * t)
      → SumLe k (A + s * 2 ^ i) (B + t * 2 ^ j) (A + u * 2 ^ i) (B + v * 2 ^ j)
  pair-le s t u v hs ht hu hv h =
      omega (arith, h, pair-terms s t hs ht, pair-terms u v hu hv, ap (λ (x : ℕ). 2 ^ k * x) (pair-pairs s t hs ht), ap (λ (x : ℕ). 2 ^ k * x) (pair-pairs u v hu hv))

  pub pair-least : (u s t : ℕ) → u < 2 → s < 2 → t < 2
      → ((u ≡ 1) × (low_row k i B + low_row k j A ≤ 2 ^ k)) ⊎ ((u ≡ 0) × (2 ^ k ≤ low_row k i B + low_row k j A))
      → SumLe k (A + u * 2 ^ i) (B + u * 2 ^ j) (A + s * 2 ^ i) (B + t * 2 ^ j)
  pair-least u s t hu hs ht h =
      pair-le u u s t hu hu hs ht
      (least-case (low_row k i B) (low_row k j A) (2 ^ k) u s t h (low-row-lt k i B (omega arith)) (low-row-lt k j A (omega arith)) hs ht)

  pub pair-greatest : (u v s t : ℕ) → u < 2 → v < 2 → s < 2 → t < 2
      → ((u ≡ 1) × (v ≡ 0) × (low_row k j A ≤ low_row k i B)) ⊎ ((u ≡ 0) × (v ≡ 1) × (low_row k i B ≤ low_row k j A))
      → SumLe k (A + s * 2 ^ i) (B + t * 2 ^ j) (A + u * 2 ^ i) (B + v * 2 ^ j)
  pair-greatest u v s t hu hv hs ht h =
      pair-le s t u v hs ht hu hv
      (greatest-case (low_row k i B) (low_row k j A) (2 ^ k) u v s t h (low-row-lt k i B (omega arith)) (low-row-lt k j A (omega arith)) hs ht)
