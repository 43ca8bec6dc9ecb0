-- The lowest bits of covered numbers, and a covered number with an unknown bit set. Assumes nothing.
use Rattle.std.proofs.Common.{◌≡◌, ℕ, ◌+◌, ◌%◌, ◌^◌, ◌<◌, ◌≤◌, ap, ◌∙◌, subst, arith, pow_pos}
use native.Mathlib.Nat.{add-div_right}
use native.Mathlib.Decide.{ℕ_discrete}
use lib.Pow.{pow-lt}
use lib.Bits.{bit_and, or_disjoint}
use Rattle.bits.specs.Bit.{bit}
use Rattle.bits.proofs.Bits.{bit-lt}
use Rattle.bits.proofs.Words.{low-le}
use Rattle.bits.proofs.Constants.{bit-pow-other}
use Rattle.vectors.specs.Row.{Row, WellFormed, Covers}
use Rattle.vectors.proofs.Rows.{top, between, covers-part, and-of-apart}

module _ (r : Row) (n : ℕ) (F : WellFormed r) (C : Covers r n) (k : ℕ) (h : k ≤ r.width) where
  pub low_least : r.value % 2 ^ k ≤ n % 2 ^ k
  low_least = low-le k r.value n (λ j l. (between r n F C j (omega arith)).0)

  pub low-greatest : n % 2 ^ k ≤ top r % 2 ^ k
  low-greatest = low-le k n (top r) (λ j l. (between r n F C j (omega arith)).1)

-- adding 2 ^ k flips bit k
pub flipped : (n k : ℕ) → bit n k + bit (n + 2 ^ k) k ≡ 1
unfolding bit
flipped n k = omega (arith, add-div_right n (pow_pos k))

-- the value with an unknown bit set
pub covers-raised : (r : Row) (k : ℕ) → WellFormed r → k < r.width → bit r.mask k ≡ 1 → Covers r (r.value + 2 ^ k)
covers-raised r k F h e = subst (Covers r) (or_disjoint r.value (2 ^ k) disjoint) (covers-part r (2 ^ k) F part)
  where
    part : (j : ℕ) → bit (2 ^ k) j ≤ bit r.mask j
    part j = elim (ℕ_discrete j k) [
      | yes d ↦ let y : bit r.mask j ≡ 1 = ap (bit r.mask) d ∙ e in let l = bit-lt (2 ^ k) j in omega arith
      | no d ↦ let z = bit-pow-other k j d in omega arith
    ]

    disjoint : bit_and r.value (2 ^ k) ≡ 0
    disjoint = and-of-apart r.width r.value (2 ^ k) F.value_below (pow-lt h)
        (λ j z. bit-pow-other k j (λ d. let y : bit r.value j ≡ 0 = ap (bit r.value) d ∙ F.apart k e in omega arith))
