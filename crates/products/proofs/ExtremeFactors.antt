-- The factors of algorithm 2 of document 002 have the least and the greatest column sum of all that two vectors cover (section 7.2). Assumes nothing.
--   least-without-pair, greatest-without-pair   with no pair unknown on both sides
--   least-with-pair, greatest-with-pair         with one, whose bits are those of equations 28 and 29
use mathlib.Core.Path.{◌≡◌, refl, ap, subst}
use mathlib.Core.Bool.{Bool, true, false}
use mathlib.Core.Logic.{◌⊎◌, inl, inr, ◌≢◌}
use Prim.Native.Nat.{ℕ, ◌+◌, ◌-◌, ◌*◌, ◌^◌, ◌≤◌, ◌<◌}
use native.Mathlib.Omega.{arith}
use lib.Dec.{leb}
use borrow.Author.Tests.{leb-true, leb-false}
use Rattle.bits.specs.Bit.{bit, digit}
use Rattle.bits.proofs.Bits.{digit_lt}
use Rattle.vectors.specs.Row.{row, WellFormed, Covers}
use Rattle.products.specs.Factors.{low_row, least_factor, greatest_factor, least_bit, greatest_bit}
use Rattle.products.specs.Rule.{DoublyUnknown, Least, Greatest}
use Rattle.products.proofs.SetBits.{set-covers}
use Rattle.products.proofs.ExtremeBits.{Like, Unlike}
use Rattle.products.proofs.Reached.{Known, Extreme, doubly-swap, least-none, greatest-none, least-one, greatest-one}
use Rattle.products.proofs.Floors.{le-of-sums}
use Rattle.products.proofs.Masks.{least-covers, greatest-covers, least-extreme, greatest-extreme}

covers-known : (k w m v n : ℕ) → k < w → Covers (row w m v) n → Known k m v n
covers-known k w m v n h c i l z = c.agrees i (omega arith) z

-- a test and its digit
digit-leb : (x y : ℕ) → ((digit (leb x y) ≡ 1) × (x ≤ y)) ⊎ ((digit (leb x y) ≡ 0) × (y ≤ x))
digit-leb x y = go (leb x y) refl
  where
    go : (b : Bool) → leb x y ≡ b → ((digit b ≡ 1) × (x ≤ y)) ⊎ ((digit b ≡ 0) × (y ≤ x))
    go true e = inl (refl, leb-true x y e)
    go false e = inr (refl, omega (arith, leb-false x y e))

pub least-bit-lt : (k i a b : ℕ) → least_bit k i a b < 2
unfolding least_bit
least-bit-lt k i a b = digit_lt (leb (low_row k i b + low_row k (k - i) a) (2 ^ k))

pub greatest-bit-lt : (k i a b : ℕ) → greatest_bit k i a b < 2
unfolding greatest_bit
greatest-bit-lt k i a b = digit_lt (leb (low_row k (k - i) a) (low_row k i b))

module _ (w ma va mb vb k : ℕ) (h : k < w) (F : WellFormed (row w ma va)) (G : WellFormed (row w mb vb)) where
  -- ---- no pair

  module _ (none : (i : ℕ) → ¬ DoublyUnknown k ma mb i) where
    pub least-without-pair : Least k (row w ma va) (row w mb vb) (least_factor k ma va mb vb) (least_factor k mb vb ma va)
    least-without-pair =
        record {
          covers_first = least-covers w k ma va mb vb F;
          covers_second = least-covers w k mb vb ma va G;
          least = λ a b ca cb.
              le-of-sums k _ _ a b
              (least-none k ma va mb vb none a b (covers-known k w ma va a h ca) (covers-known k w mb vb b h cb) _ _
              (least-extreme w k ma va mb vb F) (least-extreme w k mb vb ma va G));
        }

    pub greatest-without-pair : Greatest k (row w ma va) (row w mb vb) (greatest_factor k ma va mb vb) (greatest_factor k mb vb ma va)
    greatest-without-pair =
        record {
          covers_first = greatest-covers w k ma va mb vb F;
          covers_second = greatest-covers w k mb vb ma va G;
          greatest = λ a b ca cb.
              le-of-sums k a b _ _
              (greatest-none k ma va mb vb none a b (covers-known k w ma va a h ca) (covers-known k w mb vb b h cb) _ _
              (greatest-extreme w k ma va mb vb F) (greatest-extreme w k mb vb ma va G));
        }

  -- ---- one pair, at place i of the first factor

  module _ (i : ℕ) (lone : DoublyUnknown k ma mb i) (only : (n : ℕ) → n ≢ i → ¬ DoublyUnknown k ma mb n) where
    place : i + (k - i) ≡ k
    place = let l = lone.within in omega arith

    -- an unknown bit that is 0 may be set
    first-set : (c s : ℕ) → bit c i ≡ 0 → s < 2 → Covers (row w ma va) c → Covers (row w ma va) (c + s * 2 ^ i)
    first-set c s z l = set-covers c i s z l (row w ma va) (let b = place in omega arith) lone.first

    second-set : (d s : ℕ) → bit d (k - i) ≡ 0 → s < 2 → Covers (row w mb vb) d → Covers (row w mb vb) (d + s * 2 ^ (k - i))
    second-set d s z l = set-covers d (k - i) s z l (row w mb vb) (omega arith) lone.second

    twin : DoublyUnknown k mb ma (k - i)
    twin = doubly-swap k mb ma (k - i) i (let b = place in omega arith) lone

    pub least-with-pair : (c d : ℕ) → least_factor k ma va mb vb ≡ c → least_factor k mb vb ma va ≡ d
        → Least k (row w ma va) (row w mb vb) (c + least_bit k i c d * 2 ^ i) (d + least_bit k i c d * 2 ^ (k - i))
    unfolding least_bit
    least-with-pair c d ec ed =
        record {
          covers_first = first-set c (least_bit k i c d) (xc.double i lone) (least-bit-lt k i c d) (subst (Covers (row w ma va)) ec (least-covers w k ma va mb vb F));
          covers_second = second-set d (least_bit k i c d) (xd.double (k - i) twin) (least-bit-lt k i c d) (subst (Covers (row w mb vb)) ed (least-covers w k mb vb ma va G));
          least = λ a b ca cb.
              le-of-sums k _ _ a b
              (least-one k ma va mb vb i (k - i) place lone only a b (covers-known k w ma va a h ca) (covers-known k w mb vb b h cb) c d xc xd
              (least_bit k i c d) (least-bit-lt k i c d) (digit-leb (low_row k i d + low_row k (k - i) c) (2 ^ k)));
        }
      where
        xc : Extreme Like k ma va mb vb c
        xc = subst (Extreme Like k ma va mb vb) ec (least-extreme w k ma va mb vb F)

        xd : Extreme Like k mb vb ma va d
        xd = subst (Extreme Like k mb vb ma va) ed (least-extreme w k mb vb ma va G)

    pub greatest-with-pair : (c d : ℕ) → greatest_factor k ma va mb vb ≡ c → greatest_factor k mb vb ma va ≡ d
        → Greatest k (row w ma va) (row w mb vb) (c + greatest_bit k i c d * 2 ^ i) (d + (1 - greatest_bit k i c d) * 2 ^ (k - i))
    unfolding greatest_bit
    greatest-with-pair c d ec ed =
        record {
          covers_first = first-set c (greatest_bit k i c d) (xc.double i lone) (greatest-bit-lt k i c d) (subst (Covers (row w ma va)) ec (greatest-covers w k ma va mb vb F));
          covers_second = second-set d (1 - greatest_bit k i c d) (xd.double (k - i) twin) (omega arith) (subst (Covers (row w mb vb)) ed (greatest-covers w k mb vb ma va G));
          greatest = λ a b ca cb.
              le-of-sums k a b _ _
              (greatest-one k ma va mb vb i (k - i) place lone only a b (covers-known k w ma va a h ca) (covers-known k w mb vb b h cb) c d xc xd
              (greatest_bit k i c d) (1 - greatest_bit k i c d) (greatest-bit-lt k i c d) (omega arith) cases);
        }
      where
        xc : Extreme Unlike k ma va mb vb c
        xc = subst (Extreme Unlike k ma va mb vb) ec (greatest-extreme w k ma va mb vb F)

        xd : Extreme Unlike k mb vb ma va d
        xd = subst (Extreme Unlike k mb vb ma va) ed (greatest-extreme w k mb vb ma va G)

        cases : ((greatest_bit k i c d ≡ 1) × (1 - greatest_bit k i c d ≡ 0) × (low_row k (k - i) c ≤ low_row k i d))
            ⊎ ((greatest_bit k i c d ≡ 0) × (1 - greatest_bit k i c d ≡ 1) × (low_row k i d ≤ low_row k (k - i) c))
        cases =
            elim (digit-leb (low_row k (k - i) c) (low_row k i d)) [
              | inl t ↦ inl (t.0, ap (λ (x : ℕ). 1 - x) t.0, t.1)
              | inr t ↦ inr (t.0, ap (λ (x : ℕ). 1 - x) t.0, t.1)
            ]
