-- The key of the signed order, a number with its top bit flipped, and the extremes of the keys of a row, for every width. Assumes nothing.
--   flip w n            n with bit w - 1 flipped
--   flipped w n m v     the value of a row with mask m and value v, its top bit flipped where it is known, in a word of n bits
--   signed              the extremes of the keys
use Rattle.std.proofs.Common.{◌≡◌, ℕ, zero, suc, ◌-◌, ◌^◌, ◌<◌, ◌≤◌, min, sym, refl, ap, ◌∙◌, ap₂, lt_of_lt_of_le, lt_of_le_of_lt, arith, pow_mono}
use native.Mathlib.Decide.{dec_lt}
use lib.Pow.{pow-lt}
use lib.Bits.{bit_and, bit_or, bit_xor, differ, and_le_l, xor_lt}
use Rattle.bits.specs.Bit.{bit}
use Rattle.bits.proofs.Bits.{bit-lt, bit-above, bit-xor, bit-ext}
use Rattle.vectors.specs.Row.{row, WellFormed, Covers}
use Rattle.bits.proofs.Words.{bit-clear}
use Rattle.logic.proofs.Orders.{Reached, KeyExtremes, unsigned}

unfoldable pub flip : ℕ → ℕ → ℕ
flip w n = bit_xor n (2 ^ (w - 1))

abbrev pub flipped : ℕ → ℕ → ℕ → ℕ → ℕ
flipped w n m v = bit_xor v (bit_and (2 ^ (w - 1)) (2 ^ n - 1 - m))

-- ---- flipping twice changes nothing

differ-twice : (b c : ℕ) → b < 2 → c < 2 → differ (differ b c) c ≡ b
differ-twice zero zero p q = refl
differ-twice zero (suc zero) p q = refl
differ-twice (suc zero) zero p q = refl
differ-twice (suc zero) (suc zero) p q = refl
differ-twice zero (suc (suc c)) p q = absurd (omega arith)
differ-twice (suc zero) (suc (suc c)) p q = absurd (omega arith)
differ-twice (suc (suc b)) c p q = absurd (omega arith)

pub top_lt : (w : ℕ) → 1 ≤ w → 2 ^ (w - 1) < 2 ^ w
top_lt w h = let e : w - 1 < w = omega arith in pow-lt e

pub flip-lt : (w n : ℕ) → 1 ≤ w → n < 2 ^ w → flip w n < 2 ^ w
unfolding flip
flip-lt w n h l = xor_lt w n (2 ^ (w - 1)) l (top_lt w h)

flip-bit : (w n k : ℕ) → bit (flip w n) k ≡ differ (bit n k) (bit (2 ^ (w - 1)) k)
unfolding flip
flip-bit w n k = bit-xor n (2 ^ (w - 1)) k

pub flip_twice : (w n : ℕ) → 1 ≤ w → n < 2 ^ w → flip w (flip w n) ≡ n
flip_twice w n h l =
    bit-ext w (flip w (flip w n)) n (flip-lt w (flip w n) h (flip-lt w n h l)) l
    (λ k i. flip-bit w (flip w n) k ∙ ap (λ (b : ℕ). differ b (bit (2 ^ (w - 1)) k)) (flip-bit w n k) ∙ differ-twice _ _ (bit-lt n k) (bit-lt (2 ^ (w - 1)) k))

-- ---- the row of the keys

module _ (w n m v : ℕ) (h : 1 ≤ w) (i : w ≤ n) (F : WellFormed (row w m v)) where
  flipped-bit : (k : ℕ) → k < w → bit (flipped w n m v) k ≡ differ (bit v k) (min (bit (2 ^ (w - 1)) k) (1 - bit m k))
  flipped-bit k l = bit-xor v _ k ∙ ap (differ (bit v k)) (bit-clear n (2 ^ (w - 1)) m k (lt_of_lt_of_le F.mask_below (pow_mono i)) (lt_of_lt_of_le l i))

  -- at a known bit
  flipped-known : (k : ℕ) → k < w → bit m k ≡ 0 → bit (flipped w n m v) k ≡ differ (bit v k) (bit (2 ^ (w - 1)) k)
  flipped-known k l e =
      let t = bit-lt (2 ^ (w - 1)) k in
      let d : min (bit (2 ^ (w - 1)) k) (1 - bit m k) ≡ bit (2 ^ (w - 1)) k = omega arith in
      flipped-bit k l ∙ ap (differ (bit v k)) d

  keys-formed : WellFormed (row w m (flipped w n m v))
  keys-formed =
      record {
        mask_below = F.mask_below;
        value_below = xor_lt w v _ F.value_below (lt_of_le_of_lt (and_le_l _ _) (top_lt w h));
        apart = λ k e. elim (dec_lt k w) [
          | yes l ↦
              let d : min (bit (2 ^ (w - 1)) k) (1 - bit m k) ≡ 0 = omega arith in
              flipped-bit k l ∙ ap₂ differ (F.apart k e) d
          | no l ↦ absurd (let z = bit-above w m k F.mask_below (omega arith) in omega arith)
        ];
      }

  key-covered : (x : ℕ) → Covers (row w m v) x → Covers (row w m (flipped w n m v)) (flip w x)
  key-covered x c =
      record {
        below = flip-lt w x h c.below;
        agrees = λ k l e. flip-bit w x k ∙ ap (λ (b : ℕ). differ b (bit (2 ^ (w - 1)) k)) (c.agrees k l e) ∙ sym (flipped-known k l e);
      }

  covered-key : (y : ℕ) → Covers (row w m (flipped w n m v)) y → Covers (row w m v) (flip w y)
  covered-key y c =
      record {
        below = flip-lt w y h c.below;
        agrees = λ k l e.
            flip-bit w y k
            ∙ ap (λ (b : ℕ). differ b (bit (2 ^ (w - 1)) k)) (c.agrees k l e ∙ flipped-known k l e)
            ∙ differ-twice _ _ (bit-lt v k) (bit-lt (2 ^ (w - 1)) k);
      }

  reached : (y : ℕ) → Reached (λ x. x) (row w m (flipped w n m v)) y → Reached (flip w) (row w m v) y
  reached y R =
      record {
        member = flip w R.member;
        covered = covered-key R.member R.covered;
        key_is = flip_twice w R.member h R.covered.below ∙ R.key_is;
      }

  pub signed : KeyExtremes (flip w) (row w m v) (flipped w n m v) (bit_or (flipped w n m v) m)
  signed =
      let E = unsigned (row w m (flipped w n m v)) keys-formed in
      record {
        low = reached (flipped w n m v) E.low;
        high = reached (bit_or (flipped w n m v) m) E.high;
        from = λ x c. E.from (flip w x) (key-covered x c);
        to = λ x c. E.to (flip w x) (key-covered x c);
      }
