-- The extreme factors of algorithm 2 of document 002, lines 7 to 12, bit by bit. Assumes nothing.
use mathlib.Core.Path.{◌≡◌, ap, ◌∙◌}
use Prim.Native.Nat.{ℕ, zero, suc, ◌+◌, ◌-◌, ◌≤◌, ◌<◌, min, max}
use native.Mathlib.Omega.{arith}
use lib.Bits.{bit_and, differ}
use Rattle.bits.specs.Bit.{bit}
use Rattle.bits.specs.Reversed.{reversed}
use Rattle.bits.proofs.Bits.{bit-lt, bit-above, bit-and, bit-or, bit-xor}
use Rattle.bits.proofs.Numbers.{below-of-bits}
use Rattle.bits.proofs.Reversed.{bit-reversed}
use Rattle.vectors.specs.Row.{row, WellFormed, Covers}
use Rattle.products.specs.Factors.{and_not, least_factor, greatest_factor}
use Rattle.products.proofs.ExtremeBits.{Like, Unlike}
use Rattle.products.proofs.Reached.{Extreme}

-- partners meet
pub bit-partner : (k x i : ℕ) → i ≤ k → bit (reversed (k + 1) x) i ≡ bit x (k - i)
bit-partner k x i h = bit-reversed (k + 1) x i (omega arith) ∙ ap (bit x) (let e : k + 1 - 1 - i ≡ k - i = omega arith in e)

pub bit-and-not : (x y i : ℕ) → bit (and_not x y) i ≡ min (bit x i) (1 - bit y i)
unfolding and_not
bit-and-not x y i =
    bit-xor x (bit_and x y) i ∙ ap (differ (bit x i)) (bit-and x y i) ∙ at (bit x i) (bit y i) (bit-lt x i) (bit-lt y i)
  where
    at : (a b : ℕ) → a < 2 → b < 2 → differ a (min a b) ≡ min a (1 - b)
    at zero b p q = omega arith
    at (suc zero) zero p q = omega arith
    at (suc zero) (suc zero) p q = omega arith
    at (suc zero) (suc (suc b)) p q = absurd (omega arith)
    at (suc (suc a)) b p q = absurd (omega arith)

-- ---- the extreme factors

-- the bits of a factor c in which x stands at the unknown bits whose partners are known
abbrev pub Shape : (k m v pm c : ℕ) → (ℕ → ℕ) → Type 0
Shape k m v pm c x = (i : ℕ) → bit c i ≡ max (bit v i) (min (min (bit m i) (1 - bit (reversed (k + 1) pm) i)) (x i))

module _ (w k m v pm c : ℕ) (x : ℕ → ℕ) (F : WellFormed (row w m v)) (s : Shape k m v pm c x) where
  shape-known : (i : ℕ) → bit m i ≡ 0 → bit c i ≡ bit v i
  shape-known i z = s i ∙ omega arith

  pub shape-covers : Covers (row w m v) c
  shape-covers =
      record {
        below = below-of-bits w c (λ i l. shape-known i (bit-above w m i F.mask_below l) ∙ bit-above w v i F.value_below l);
        agrees = λ i l z. shape-known i z;
      }

  pub shape-extreme : (R : ℕ → ℕ → Type 0) (pv : ℕ) → ((i : ℕ) → i ≤ k → bit c i ≡ x i → R (bit c i) (bit pv (k - i))) → ((i : ℕ) → x i < 2)
      → Extreme R k m v pm pv c
  shape-extreme R pv h l =
      record {
        known = λ i g z. shape-known i z;
        single = λ i g u z. h i g (s i ∙ (let e = bit-partner k pm i g in let y = F.apart i u in let y' = l i in omega arith));
        double = λ i d. s i ∙ (let e = bit-partner k pm i d.within in let y = F.apart i d.first in let z = d.second in omega arith);
      }

module _ (w k m v pm pv : ℕ) (F : WellFormed (row w m v)) where
  least-shape : Shape k m v pm (least_factor k m v pm pv) (bit (reversed (k + 1) pv))
  unfolding least_factor
  least-shape i =
      bit-or v _ i
      ∙ ap (max (bit v i)) (bit-and (and_not m (reversed (k + 1) pm)) (reversed (k + 1) pv) i
      ∙ ap (λ (y : ℕ). min y (bit (reversed (k + 1) pv) i)) (bit-and-not m (reversed (k + 1) pm) i))

  greatest-shape : Shape k m v pm (greatest_factor k m v pm pv) (λ i. 1 - bit (reversed (k + 1) pv) i)
  unfolding greatest_factor
  greatest-shape i =
      bit-or v _ i
      ∙ ap (max (bit v i)) (bit-and-not (and_not m (reversed (k + 1) pm)) (reversed (k + 1) pv) i
      ∙ ap (λ (y : ℕ). min y (1 - bit (reversed (k + 1) pv) i)) (bit-and-not m (reversed (k + 1) pm) i))

  pub least-covers : Covers (row w m v) (least_factor k m v pm pv)
  least-covers = shape-covers w k m v pm _ _ F least-shape

  pub greatest-covers : Covers (row w m v) (greatest_factor k m v pm pv)
  greatest-covers = shape-covers w k m v pm _ _ F greatest-shape

  pub least-extreme : Extreme Like k m v pm pv (least_factor k m v pm pv)
  least-extreme =
      shape-extreme w k m v pm _ _ F least-shape Like pv (λ i l e. e ∙ bit-partner k pv i l) (λ i. bit-lt (reversed (k + 1) pv) i)

  pub greatest-extreme : Extreme Unlike k m v pm pv (greatest_factor k m v pm pv)
  greatest-extreme =
      shape-extreme w k m v pm _ _ F greatest-shape Unlike pv
      (λ i l e. let p = bit-partner k pv i l in let b = bit-lt pv (k - i) in omega arith) (λ i. omega arith)
