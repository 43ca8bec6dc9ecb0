-- A column in which two covered products differ is unknown. Assumes nothing.
--   marks-or, unknown-or                            the columns that two words mark
--   covered-value, covered-and                      the value alone, with the unknown bits set that are also in c
--   difference-set, difference-clear                what a bit of a difference tells
--   witness                                         a word of differences marks witnessed columns
--   witnessed                                       a word of witnessed columns marks unknown ones
use Rattle.std.proofs.Common.{◌≡◌, ℕ, ◌+◌, ◌*◌, ◌%◌, ◌^◌, ◌<◌, ◌≢◌, ◌⊎◌, sym, ap, ◌∙◌, inl, inr, arith}
use lib.Bits.{bit_and, bit_or, differ}
use Rattle.bits.specs.Bit.{bit}
use Rattle.bits.proofs.Bits.{bit-lt, bit-and, bit-xor}
use Rattle.bits.proofs.Shifts.{bit-mod}
use Rattle.bits.proofs.SameBits.{differ-cases}
use Rattle.bits.proofs.Words.{or_cases}
use Rattle.vectors.specs.Row.{row}
use Rattle.vectors.proofs.Rows.{covers-value, covers-part}
use Rattle.columns.specs.Formed.{Formed}
use Rattle.columns.specs.Settled.{product_of, ColumnIs, Marks, AllUnknown}
use Rattle.columns.specs.Choices.{Covered, difference, Witness}
use Rattle.columns.proofs.ProductMask.{product-varies}

pub marks-or : (P : ℕ → Type 0) (m n : ℕ) → Marks P m → Marks P n → Marks P (bit_or m n)
marks-or P m n p q k e = elim (or_cases m n k e) [ inl f ↦ p k f | inr f ↦ q k f ]

pub unknown-or : (ma va mb vb m n : ℕ) → AllUnknown ma va mb vb m → AllUnknown ma va mb vb n → AllUnknown ma va mb vb (bit_or m n)
unknown-or ma va mb vb m n p q w F = marks-or (λ k. ColumnIs w ma va mb vb k 1) m n (p w F) (q w F)

-- ---- covered numbers

pub covered-value : (m v : ℕ) → Covered m v v
covered-value m v w F = covers-value (row w m v) F

pub covered-and : (m v c : ℕ) → Covered m v (bit_or v (bit_and m c))
covered-and m v c w F = covers-part (row w m v) (bit_and m c) F (λ k. let e = bit-and m c k in omega arith)

-- ---- differences

module _ (p a b k : ℕ) (h : k < 32) where
  told : ((bit p k ≡ bit (a * b) k) × (bit (difference p a b) k ≡ 0)) ⊎ ((bit p k + bit (a * b) k ≡ 1) × (bit (difference p a b) k ≡ 1))
  unfolding difference
  told =
      let x = bit-xor p (a * b % 2 ^ 32) k ∙ ap (differ (bit p k)) (bit-mod (a * b) 32 k h) in
      elim (differ-cases (bit p k) (bit (a * b) k) (bit-lt p k) (bit-lt (a * b) k)) [
        | inl s ↦ inl (s.0, x ∙ s.1)
        | inr s ↦ inr (s.0, x ∙ s.1)
      ]

  pub difference-set : bit (difference p a b) k ≡ 1 → bit (a * b) k ≢ bit p k
  difference-set e d = elim told [ inl s ↦ absurd (omega (arith, s.1)) | inr s ↦ absurd (omega (arith, s.0)) ]

  pub difference-clear : bit (difference p a b) k ≡ 0 → bit (a * b) k ≡ bit p k
  difference-clear e = elim told [ inl s ↦ sym s.0 | inr s ↦ absurd (omega (arith, s.1)) ]

pub witness : (p a mb vb b n : ℕ) → Covered mb vb b → n ≡ difference p a b → Marks (Witness p a mb vb) n
witness p a mb vb b n c e k d = record { number = b; covered = c; differs = ap (λ (x : ℕ). bit x k) (sym e) ∙ d }

-- ---- columns in which a product differs from the plain one

module _ (ma va mb vb p : ℕ) (e : p ≡ va * vb % 2 ^ 32) where
  pub plain-bit : (k : ℕ) → k < 32 → bit p k ≡ bit (va * vb) k
  plain-bit k h = ap (λ (x : ℕ). bit x k) e ∙ bit-mod (va * vb) 32 k h

  pub differing-unknown : (a b : ℕ) → Covered ma va a → Covered mb vb b → (k : ℕ) → bit (difference p a b) k ≡ 1
      → (w : ℕ) → Formed w ma va mb vb → k < w → bit (product_of w ma va mb vb).mask k ≡ 1
  differing-unknown a b ca cb k d w F h =
      let m = F.most in
      product-varies w ma va mb vb k h a b va vb (ca w F.first) (cb w F.second) (covered-value ma va w F.first) (covered-value mb vb w F.second)
      (λ s. difference-set p a b k (omega arith) d (s ∙ sym (plain-bit k (omega arith))))

  pub witnessed : (a : ℕ) → Covered ma va a → (n : ℕ) → Marks (Witness p a mb vb) n → AllUnknown ma va mb vb n
  witnessed a ca n M w F k d = let W = M k d in differing-unknown a W.number ca W.covered k W.differs w F
