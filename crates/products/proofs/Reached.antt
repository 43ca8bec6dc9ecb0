-- The extremes of the column sum over all numbers that two vectors cover, where at most one column pair is unknown on both sides. Assumes nothing.
--   Known k m v n            n has the known bits of the vector (m, v), up to bit k
--   Extreme R k m v pm pv c  c has the vector's known bits; an unknown one is related by R to its known partner, and is 0 if that is unknown too
--   Filled k m pm c a c'     c' is c, with a's bits where a pair is unknown on both sides
use mathlib.Core.Path.{◌≡◌, refl, sym, ap, ◌∙◌, subst₂}
use mathlib.Core.Logic.{◌⊎◌, inl, inr, ⊎_elim, ◌≢◌}
use Prim.Native.Nat.{ℕ, ◌+◌, ◌-◌, ◌*◌, ◌^◌, ◌≤◌, ◌<◌}
use native.Mathlib.Decide.{ℕ_discrete}
use native.Mathlib.Omega.{arith}
use Rattle.bits.specs.Bit.{bit}
use Rattle.bits.proofs.Bits.{bit-lt, bit-cases}
use Rattle.products.specs.Factors.{low_row}
use Rattle.products.specs.Rule.{DoublyUnknown}
use Rattle.products.proofs.SetBits.{set_at, set_other}
use Rattle.products.proofs.Flips.{SumLe, le_trans}
use Rattle.products.proofs.ExtremeBits.{Moves, Like, Unlike, lowers-both, raises-both}
use Rattle.products.proofs.LonePair.{pair-least, pair-greatest}

abbrev pub Known : ℕ → ℕ → ℕ → ℕ → Type 0
Known k m v n = (i : ℕ) → i ≤ k → bit m i ≡ 0 → bit n i ≡ bit v i

pub record Extreme (R : ℕ → ℕ → Type 0) (k m v pm pv c : ℕ) : Type 0 where
  pub known : (i : ℕ) → i ≤ k → bit m i ≡ 0 → bit c i ≡ bit v i
  pub single : (i : ℕ) → i ≤ k → bit m i ≡ 1 → bit pm (k - i) ≡ 0 → R (bit c i) (bit pv (k - i))
  pub double : (i : ℕ) → DoublyUnknown k m pm i → bit c i ≡ 0

abbrev Filled : (k m pm c a c' : ℕ) → Type 0
Filled k m pm c a c' = (i : ℕ) → i ≤ k → (bit a i ≡ bit c' i) ⊎ ((bit c' i ≡ bit c i) × ¬ DoublyUnknown k m pm i)

-- a pair seen from the other factor
pub doubly-swap : (k ma mb i j : ℕ) → i + j ≡ k → DoublyUnknown k mb ma j → DoublyUnknown k ma mb i
doubly-swap k ma mb i j e d =
    let p : k - i ≡ j = omega arith in
    let q : k - j ≡ i = omega arith in
    record { within = omega arith; first = ap (bit ma) (sym q) ∙ d.second; second = ap (bit mb) p ∙ d.first }

-- ---- one factor

module _ (R : ℕ → ℕ → Type 0) (k m v pm pv c : ℕ) (x : Extreme R k m v pm pv c) (a c' : ℕ) (ka : Known k m v a) (f : Filled k m pm c a c') where
  filled-known : Known k m v c'
  filled-known i l z = ⊎_elim (λ e. sym e ∙ ka i l z) (λ t. t.0 ∙ x.known i l z) (f i l)

  settle : (b : ℕ) → Known k pm pv b → Moves R k b a c'
  settle b kb i l = ⊎_elim (λ e. inl e) (λ t. go t (bit-cases m i) (bit-cases pm (k - i))) (f i l)
    where
      go : (bit c' i ≡ bit c i) × ¬ DoublyUnknown k m pm i → (bit m i ≡ 0) ⊎ (bit m i ≡ 1) → (bit pm (k - i) ≡ 0) ⊎ (bit pm (k - i) ≡ 1)
          → (bit a i ≡ bit c' i) ⊎ R (bit c' i) (bit b (k - i))
      go t (inl z) _ = inl (ka i l z ∙ sym (x.known i l z) ∙ sym t.0)
      go t (inr z) (inl y) = inr (subst₂ R (sym t.0) (sym (kb (k - i) (omega arith) y)) (x.single i l z y))
      go t (inr z) (inr y) = absurd (t.1 (record { within = l; first = z; second = y }))

-- ---- both factors

module _ (R : ℕ → ℕ → Type 0) (k ma va mb vb c d : ℕ) (xc : Extreme R k ma va mb vb c) (xd : Extreme R k mb vb ma va d)
    (a b : ℕ) (ka : Known k ma va a) (kb : Known k mb vb b) where
  settled : (c' d' : ℕ) → Filled k ma mb c a c' → Filled k mb ma d b d' → Moves R k b a c' × Moves R k c' b d'
  settled c' d' fc fd = (
    settle R k ma va mb vb c xc a c' ka fc b kb,
    settle R k mb vb ma va d xd b d' kb fd c' (filled-known R k ma va mb vb c xc a c' ka fc),
  )

-- ---- no pair unknown on both sides

module _ (k ma va mb vb : ℕ) (none : (i : ℕ) → ¬ DoublyUnknown k ma mb i) (a b : ℕ) (ka : Known k ma va a) (kb : Known k mb vb b) (c d : ℕ) where
  fill-c : Filled k ma mb c a c
  fill-c i l = inr (refl, none i)

  fill-d : Filled k mb ma d b d
  fill-d j l = inr (refl, λ p. none (k - j) (doubly-swap k ma mb (k - j) j (omega arith) p))

  pub least-none : Extreme Like k ma va mb vb c → Extreme Like k mb vb ma va d → SumLe k c d a b
  least-none xc xd =
      let s = settled Like k ma va mb vb c d xc xd a b ka kb c d fill-c fill-d in
      lowers-both k a b c d s.0 s.1

  pub greatest-none : Extreme Unlike k ma va mb vb c → Extreme Unlike k mb vb ma va d → SumLe k a b c d
  greatest-none xc xd =
      let s = settled Unlike k ma va mb vb c d xc xd a b ka kb c d fill-c fill-d in
      raises-both k a b c d s.0 s.1

-- ---- one, at places i and j

-- a's bit at the pair's place, the extreme's elsewhere
fill : (k m pm c i a : ℕ) → ((n : ℕ) → n ≢ i → ¬ DoublyUnknown k m pm n) → bit c i ≡ 0 → Filled k m pm c a (c + bit a i * 2 ^ i)
fill k m pm c i a only off n l =
    elim (ℕ_discrete n i) [
      | yes q ↦ inl (ap (bit a) q ∙ sym (set_at c i (bit a i) off (bit-lt a i)) ∙ ap (bit (c + bit a i * 2 ^ i)) (sym q))
      | no f ↦ inr (set_other c i (bit a i) off (bit-lt a i) n f, only n f)
    ]

module _ (k ma va mb vb i j : ℕ) (e : i + j ≡ k) (lone : DoublyUnknown k ma mb i) (only : (n : ℕ) → n ≢ i → ¬ DoublyUnknown k ma mb n)
    (a b : ℕ) (ka : Known k ma va a) (kb : Known k mb vb b) (c d : ℕ) where
  only' : (n : ℕ) → n ≢ j → ¬ DoublyUnknown k mb ma n
  only' n f p = let l = p.within in only (k - n) (λ g. f (omega (arith, g))) (doubly-swap k ma mb (k - n) n (omega arith) p)

  module _ (R : ℕ → ℕ → Type 0) (xc : Extreme R k ma va mb vb c) (xd : Extreme R k mb vb ma va d) where
    off-c : bit c i ≡ 0
    off-c = xc.double i lone

    off-d : bit d j ≡ 0
    off-d = xd.double j (doubly-swap k mb ma j i (omega arith) lone)

    moved : Moves R k b a (c + bit a i * 2 ^ i) × Moves R k (c + bit a i * 2 ^ i) b (d + bit b j * 2 ^ j)
    moved =
        settled R k ma va mb vb c d xc xd a b ka kb (c + bit a i * 2 ^ i) (d + bit b j * 2 ^ j)
        (fill k ma mb c i a only off-c) (fill k mb ma d j b only' off-d)

  pub least-one : Extreme Like k ma va mb vb c → Extreme Like k mb vb ma va d → (u : ℕ) → u < 2
      → ((u ≡ 1) × (low_row k i d + low_row k j c ≤ 2 ^ k)) ⊎ ((u ≡ 0) × (2 ^ k ≤ low_row k i d + low_row k j c))
      → SumLe k (c + u * 2 ^ i) (d + u * 2 ^ j) a b
  least-one xc xd u hu h =
      let s = moved Like xc xd in
      le_trans k (c + u * 2 ^ i) (d + u * 2 ^ j) (c + bit a i * 2 ^ i) (d + bit b j * 2 ^ j) a b
      (pair-least k i j c d e (off-c Like xc xd) (off-d Like xc xd) u (bit a i) (bit b j) hu (bit-lt a i) (bit-lt b j) h)
      (lowers-both k a b (c + bit a i * 2 ^ i) (d + bit b j * 2 ^ j) s.0 s.1)

  pub greatest-one : Extreme Unlike k ma va mb vb c → Extreme Unlike k mb vb ma va d → (u v : ℕ) → u < 2 → v < 2
      → ((u ≡ 1) × (v ≡ 0) × (low_row k j c ≤ low_row k i d)) ⊎ ((u ≡ 0) × (v ≡ 1) × (low_row k i d ≤ low_row k j c))
      → SumLe k a b (c + u * 2 ^ i) (d + v * 2 ^ j)
  greatest-one xc xd u v hu hv h =
      let s = moved Unlike xc xd in
      le_trans k a b (c + bit a i * 2 ^ i) (d + bit b j * 2 ^ j) (c + u * 2 ^ i) (d + v * 2 ^ j)
      (raises-both k a b (c + bit a i * 2 ^ i) (d + bit b j * 2 ^ j) s.0 s.1)
      (pair-greatest k i j c d e (off-c Unlike xc xd) (off-d Unlike xc xd) u v (bit a i) (bit b j) hu hv (bit-lt a i) (bit-lt b j) h)
