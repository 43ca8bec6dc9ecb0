-- Every choice of the unknown bits, those of the first operand in the low half of a word, tried from the greatest down. Assumes nothing.
--   joined mb ma                 the unknown bits of both operands
--   Tried p va vb all found s    found has the columns in which some choice above s differs from the plain product p
use Rattle.std.proofs.Common.{◌≡◌, ℕ, zero, suc, ◌+◌, ◌-◌, ◌*◌, ◌/◌, ◌%◌, ◌^◌, ◌<◌, ◌≤◌, sym, ap, ◌∙◌, ap₂, inl, inr, le_refl, lt_of_le_of_lt, arith, shl_exact}
use native.Mathlib.Decide.{dec_lt}
use lib.Pow.{high, low}
use lib.Bits.{bit_and, bit_or, and_le_r, or_zero_r, or_shifted_r, bit_xor, xor_self}
use Rattle.bits.specs.Bit.{bit}
use Rattle.bits.proofs.Bits.{bit-lt, bit-or, bit-cases, bit-of-zero}
use Rattle.bits.proofs.Shifts.{bit-low, bit_high, bit-div, bit-mod, bit-mod-above}
use Rattle.bits.proofs.Words.{or_cases}
use Rattle.vectors.specs.Row.{row, Covers}
use Rattle.vectors.proofs.Rows.{covers-part, covered-part}
use Rattle.columns.specs.Formed.{Formed}
use Rattle.columns.specs.Settled.{ColumnIs, UnknownExactly}
use Rattle.columns.specs.Choices.{difference, difference_at}
use Rattle.columns.proofs.ProductMask.{product-steady}
use Rattle.columns.proofs.Marked.{difference-clear, differing-unknown}
use Rattle.columns.proofs.Parts.{Part, part-and, part-below, part-le, next-part}

-- ---- two parts in one word

abbrev pub joined : ℕ → ℕ → ℕ
joined high low = high * 2 ^ 32 + low

pub joined_word : (ma mb : ℕ) → ma < 2 ^ 32 → mb < 2 ^ 32 → bit_or ma (mb * 2 ^ 32 % 2 ^ 64) ≡ joined mb ma
joined_word ma mb ha hb = ap (bit_or ma) (shl_exact 32 32 64 hb (le_refl 64)) ∙ or_shifted_r mb 32 ma ha

pub joined-below : (ma mb : ℕ) → ma < 2 ^ 32 → mb < 2 ^ 32 → bit_or ma (mb * 2 ^ 32 % 2 ^ 64) < 2 ^ 64
joined-below ma mb ha hb = omega (arith, joined_word ma mb ha hb)

module _ (ma mb : ℕ) (ha : ma < 2 ^ 32) where
  part_low : (t : ℕ) → Part (joined mb ma) t → Part ma (t % 2 ^ 32)
  part_low t p k = elim (dec_lt k 32) [
    | yes l ↦ let x = p k in let y = bit-low mb 32 ma k l in let z = bit-mod t 32 k l in omega arith
    | no l ↦ let z = bit-mod-above t 32 k (omega arith) in omega arith
  ]

  part-high : (t : ℕ) → Part (joined mb ma) t → Part mb (t / 2 ^ 32)
  part-high t p k = let x = p (k + 32) in let y = bit_high mb 32 ma k ha in let z = bit-div t 32 k in omega arith

  part-joined : (s t : ℕ) → s < 2 ^ 32 → Part ma s → Part mb t → Part (joined mb ma) (joined t s)
  part-joined s t hs p q k = elim (dec_lt k 32) [
    | yes l ↦ let x = p k in let y = bit-low mb 32 ma k l in let z = bit-low t 32 s k l in omega arith
    | no l ↦
        let e : k ≡ k - 32 + 32 = omega arith in
        let x = q (k - 32) in
        let y = ap (bit (joined mb ma)) e ∙ bit_high mb 32 ma (k - 32) ha in
        let z = ap (bit (joined t s)) e ∙ bit_high t 32 s (k - 32) hs in
        omega arith
  ]

-- ---- the loop

pub record Tried (p va vb all found s : ℕ) : Type 0 where
  pub part : Part all s
  pub every : (t : ℕ) → Part all t → s < t → (k : ℕ) → bit (difference_at p va vb t) k ≡ 1 → bit found k ≡ 1
  pub only : (k : ℕ) → bit found k ≡ 1 → (t : ℕ) × Part all t × (bit (difference_at p va vb t) k ≡ 1)

module _ (p va vb all : ℕ) (h : all < 2 ^ 64) where
  pub tried-start : Tried p va vb all 0 all
  tried-start =
      record {
        part = λ k. le_refl (bit all k);
        every = λ t q l. let e = part-le 64 all t h q in absurd (omega arith);
        only = λ k e. absurd (omega (arith, bit-of-zero k));
      }

  pub tried-next : (found s d : ℕ) → 1 ≤ s → d ≡ difference_at p va vb s → Tried p va vb all found s → Tried p va vb all (bit_or found d) (bit_and (s - 1) all)
  tried-next found s d n e T =
      record {
        part = part-and all (s - 1);
        every = λ t q l k f. elim (dec_lt s t) [
          | yes g ↦ let x = T.every t q g k f in let y = bit-or found d k in let z = bit-lt d k in omega arith
          | no g ↦ elim (dec_lt t s) [
            | yes i ↦ let x = next-part 64 all s t (part-below 64 all s h T.part) T.part q i in absurd (omega arith)
            | no i ↦
                let j : t ≡ s = omega arith in
                let x = ap (λ (a : ℕ). bit a k) (e ∙ ap (difference_at p va vb) (sym j)) ∙ f in
                let y = bit-or found d k in
                let z = bit-lt found k in
                omega arith
          ]
        ];
        only = λ k f. elim (or_cases found d k f) [
          | inl g ↦ T.only k g
          | inr g ↦ (s, T.part, ap (λ (a : ℕ). bit a k) (sym e) ∙ g)
        ];
      }

-- ---- what has been found once every choice was tried

pub choice-zero : (p va vb : ℕ) → p ≡ va * vb % 2 ^ 32 → difference_at p va vb 0 ≡ 0
unfolding difference_at difference
choice-zero p va vb e = ap₂ (λ (x y : ℕ). bit_xor p (x * y % 2 ^ 32)) (or_zero_r va) (or_zero_r vb) ∙ ap (bit_xor p) (sym e) ∙ xor_self p

module _ (ma va mb vb p found : ℕ) (ha : ma < 2 ^ 32) (e : p ≡ va * vb % 2 ^ 32) (T : Tried p va vb (joined mb ma) found 0) where
  found-unknown : (k : ℕ) → bit found k ≡ 1 → (w : ℕ) → Formed w ma va mb vb → ColumnIs w ma va mb vb k 1
  unfolding difference_at
  found-unknown k f w F =
      let (t, q, d) = T.only k f in
      differing-unknown ma va mb vb p e (bit_or va (t % 2 ^ 32)) (bit_or vb (t / 2 ^ 32))
      (λ v G. covers-part (row v ma va) (t % 2 ^ 32) G (part_low ma mb ha t q))
      (λ v G. covers-part (row v mb vb) (t / 2 ^ 32) G (part-high ma mb ha t q))
      k d w F

  -- a choice whose column is not found agrees with the plain product there
  agrees : (k : ℕ) → k < 32 → bit found k ≡ 0 → (t : ℕ) → Part (joined mb ma) t → bit (difference_at p va vb t) k ≡ 0
  agrees k h f zero q = ap (λ (x : ℕ). bit x k) (choice-zero p va vb e) ∙ bit-of-zero k
  agrees k h f (suc t) q = elim (bit-cases (difference_at p va vb (suc t)) k) [
    | inl d ↦ d
    | inr d ↦ let x = T.every (suc t) q (omega arith) k d in absurd (omega arith)
  ]

  module _ (w : ℕ) (F : Formed w ma va mb vb) (k : ℕ) (h : k < w) (f : bit found k ≡ 0) where
    -- the choice that a covered pair is
    same : (a b : ℕ) → Covers (row w ma va) a → Covers (row w mb vb) b → bit (a * b) k ≡ bit p k
    unfolding difference_at
    same a b ca cb =
        let s = bit_and a ma in
        let t = bit_and b mb in
        let hs = lt_of_le_of_lt (and_le_r a ma) ha in
        let m = F.most in
        let d = agrees k (omega arith) f (joined t s) (part-joined ma mb ha s t hs (part-and ma a) (part-and mb b)) in
        let x : bit_or va (joined t s % 2 ^ 32) ≡ a = ap (bit_or va) (low t 32 hs) ∙ sym (covered-part (row w ma va) a F.first ca) in
        let y : bit_or vb (joined t s / 2 ^ 32) ≡ b = ap (bit_or vb) (high t 32 hs) ∙ sym (covered-part (row w mb vb) b F.second cb) in
        difference-clear p a b k (omega arith) (ap₂ (λ (i j : ℕ). bit (difference p i j) k) (sym x) (sym y) ∙ d)

  pub every-choice : UnknownExactly ma va mb vb found
  every-choice w F k h = elim (bit-cases found k) [
    | inl f ↦ product-steady w ma va mb vb k h (bit p k) (same w F k h f) ∙ sym f
    | inr f ↦ found-unknown k f w F h ∙ sym f
  ]
