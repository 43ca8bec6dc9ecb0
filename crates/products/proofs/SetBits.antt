-- A number with one bit set that was 0. Assumes nothing.
use mathlib.Core.Path.{◌≡◌, sym, ap, ◌∙◌, subst}
use mathlib.Core.Logic.{◌≢◌}
use Prim.Native.Nat.{ℕ, suc, ◌+◌, ◌-◌, ◌*◌, ◌/◌, ◌%◌, ◌^◌, ◌≤◌, ◌<◌, min}
use native.Mathlib.Nat.{mod-lt, pow-suc}
use native.Mathlib.Decide.{dec_lt, ℕ_discrete}
use native.Mathlib.Omega.{arith}
use lib.Arith.{digits_lt}
use lib.Bits.{bit_and, bit_or, or_disjoint}
use lib.Pow.{pow_pos, low}
use Rattle.bits.specs.Bit.{bit}
use Rattle.bits.proofs.Bits.{bit-zero, bit-above, bit-and}
use Rattle.bits.proofs.Shifts.{bit-div, bit-low, bit_high, bit-mod, bit-mul-low}
use Rattle.bits.proofs.Numbers.{zero-of-bits, below-of-bits}
use Rattle.vectors.specs.Row.{Row, Covers}
use Rattle.products.proofs.LowRows.{parts}

-- a place at or above i, as a place above it
pub above : (P : ℕ → Type 0) (i : ℕ) → ((m : ℕ) → P (m + i)) → (j : ℕ) → i ≤ j → P j
above P i h j l = let e : j - i + i ≡ j = omega arith in subst P e (h (j - i))

module _ (n i s : ℕ) (off : bit n i ≡ 0) (hs : s < 2) where
  -- the new number's parts: above bit i, bit i, below it
  anew : n + s * 2 ^ i ≡ n / 2 ^ suc i * 2 ^ suc i + (s * 2 ^ i + n % 2 ^ i)
  anew = omega (arith, parts n i, ap (λ (x : ℕ). x * 2 ^ i) off, ap (λ (x : ℕ). n / 2 ^ suc i * x) (pow-suc 2 i))

  small : s * 2 ^ i + n % 2 ^ i < 2 ^ suc i
  small = omega (arith, digits_lt {q = s} {m = 2} {r = n % 2 ^ i} {c = 2 ^ i} hs (mod-lt n (pow_pos i)), pow-suc 2 i)

  lifted : n + s * 2 ^ i ≡ (n / 2 ^ suc i * 2 + s) * 2 ^ i + n % 2 ^ i
  lifted = omega (arith, anew, ap (λ (x : ℕ). n / 2 ^ suc i * x) (pow-suc 2 i))

  pub set-low : (n + s * 2 ^ i) % 2 ^ i ≡ n % 2 ^ i
  set-low = ap (λ (x : ℕ). x % 2 ^ i) lifted ∙ low (n / 2 ^ suc i * 2 + s) i (mod-lt n (pow_pos i))

  pub set_at : bit (n + s * 2 ^ i) i ≡ s
  set_at =
      let e : 0 + i ≡ i = omega arith in
      let q : ℕ = n / 2 ^ suc i * 2 + s in
      ap (bit (n + s * 2 ^ i)) (sym e)
      ∙ ap (λ (x : ℕ). bit x (0 + i)) lifted
      ∙ bit_high q i (n % 2 ^ i) 0 (mod-lt n (pow_pos i))
      ∙ bit-zero q
      ∙ omega arith

  higher : (j : ℕ) → suc i ≤ j → bit (n + s * 2 ^ i) j ≡ bit n j
  higher =
      above (λ j. bit (n + s * 2 ^ i) j ≡ bit n j) (suc i)
      (λ m.
      ap (λ (x : ℕ). bit x (m + suc i)) anew
      ∙ bit_high (n / 2 ^ suc i) (suc i) (s * 2 ^ i + n % 2 ^ i) m small
      ∙ bit-div n (suc i) m)

  pub set_other : (j : ℕ) → j ≢ i → bit (n + s * 2 ^ i) j ≡ bit n j
  set_other j d =
      elim (dec_lt j i) [
        | yes h ↦ ap (λ (x : ℕ). bit x j) lifted ∙ bit-low (n / 2 ^ suc i * 2 + s) i (n % 2 ^ i) j h ∙ bit-mod n i j h
        | no h ↦ higher j (omega arith)
      ]

  pub set_below : (w : ℕ) → i < w → n < 2 ^ w → n + s * 2 ^ i < 2 ^ w
  set_below w h l = below-of-bits w (n + s * 2 ^ i) (λ j m. higher j (omega arith) ∙ bit-above w n j l m)

  -- an unknown bit may be set
  pub set-covers : (r : Row) → i < r.width → bit r.mask i ≡ 1 → Covers r n → Covers r (n + s * 2 ^ i)
  set-covers r h u c =
      record {
        below = set_below r.width h c.below;
        agrees = λ j l z. set_other j (λ e. absurd (omega (arith, z, u, ap (bit r.mask) e))) ∙ c.agrees j l z;
      }

  -- as the code sets it
  pub set-or : bit_or n (s * 2 ^ i) ≡ n + s * 2 ^ i
  set-or = or_disjoint n (s * 2 ^ i) (zero-of-bits (bit_and n (s * 2 ^ i)) apart)
    where
      at : (j : ℕ) → Dec (j ≡ i) → min (bit n j) (bit (s * 2 ^ i) j) ≡ 0
      at j (yes e) = omega (arith, ap (bit n) e ∙ off)
      at j (no d) =
          elim (dec_lt j i) [
            | yes h ↦ omega (arith, bit-mul-low s i j h)
            | no h ↦ omega (arith, bit-above (suc i) (s * 2 ^ i) j (omega (arith, small)) (omega arith))
          ]

      apart : (j : ℕ) → bit (bit_and n (s * 2 ^ i)) j ≡ 0
      apart j = bit-and n (s * 2 ^ i) j ∙ at j (ℕ_discrete j i)
