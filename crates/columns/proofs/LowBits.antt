-- The columns below c of a product's best result are those of the operands' lowest c bits: unknown bits from c on are left out. Assumes nothing.
--   lowest c m    the bits of m below c
--   low-columns   the law
--   low-settled   .. for a word of columns
use Rattle.std.proofs.Common.{◌≡◌, ℕ, ◌-◌, ◌*◌, ◌%◌, ◌^◌, ◌<◌, sym, ap, ◌∙◌, subst, inl, inr, lt_of_le_of_lt, add-zero, mod-lt, mul_comm, arith, pow_pos}
use native.Mathlib.Nat.{mod-one}
use native.Mathlib.Decide.{dec_lt}
use lib.Bits.{bit_and, bit_or, and_le_l}
use Rattle.bits.specs.Bit.{bit}
use Rattle.bits.proofs.Bits.{bit-lt, bit-cases, bit-and, bit-or, bit-ext}
use Rattle.bits.proofs.Constants.{bit-ones, bit-ones-above}
use Rattle.bits.proofs.Shifts.{bit-mod, bit-same-low}
use Rattle.bits.proofs.Words.{or_cases}
use Rattle.vectors.specs.Row.{row, WellFormed, Covers}
use Rattle.vectors.proofs.Rows.{covers-part, covered-part}
use Rattle.columns.specs.Formed.{Formed}
use Rattle.columns.specs.Settled.{product_of, UnknownExactly, SettledIn}
use Rattle.columns.proofs.ProductMask.{known-bit, product-steady}
use Rattle.columns.proofs.Untouched.{lifted}

abbrev pub lowest : ℕ → ℕ → ℕ
lowest c m = bit_and m (2 ^ c - 1)

-- ---- one operand

module _ (w c m v : ℕ) (F : WellFormed (row w m v)) where
  pub low-formed : WellFormed (row w (lowest c m) v)
  low-formed =
      record {
        mask_below = lt_of_le_of_lt (and_le_l m (2 ^ c - 1)) F.mask_below;
        value_below = F.value_below;
        apart = λ k e. F.apart k (let d = bit-and m (2 ^ c - 1) k in let l = bit-lt m k in omega arith);
      }

  -- it covers no more
  low-covers : (n : ℕ) → Covers (row w (lowest c m) v) n → Covers (row w m v) n
  low-covers n C = record { below = C.below; agrees = λ k h e. C.agrees k h (let d = bit-and m (2 ^ c - 1) k in omega arith) }

  -- a covered number, without the unknown bits from c on
  abbrev part : ℕ → ℕ
  part n = bit_or v (bit_and n (lowest c m))

  covers_low : (n : ℕ) → Covers (row w (lowest c m) v) (part n)
  covers_low n = covers-part (row w (lowest c m) v) (bit_and n (lowest c m)) low-formed (λ k. let e = bit-and n (lowest c m) k in omega arith)

  same_low : (n : ℕ) → Covers (row w m v) n → n % 2 ^ c ≡ part n % 2 ^ c
  same_low n C =
      bit-ext c (n % 2 ^ c) (part n % 2 ^ c) (mod-lt n (pow_pos c)) (mod-lt (part n) (pow_pos c))
      (λ k l. bit-mod n c k l ∙ at k l ∙ sym (bit-mod (part n) c k l))
    where
      at : (k : ℕ) → k < c → bit n k ≡ bit (part n) k
      at k l =
          let p = ap (λ (x : ℕ). bit x k) (covered-part (row w m v) n F C) in
          let q = bit-or v (bit_and n m) k in
          let r = bit-and n m k in
          let s = bit-or v (bit_and n (lowest c m)) k in
          let t = bit-and n (lowest c m) k in
          let u = bit-and m (2 ^ c - 1) k in
          let o = bit-ones c k l in
          let z = bit-lt m k in
          omega arith

-- ---- both

-- factors that agree below c have products that do
same-product : (c a x b y : ℕ) → a % 2 ^ c ≡ x % 2 ^ c → b % 2 ^ c ≡ y % 2 ^ c → (k : ℕ) → k < c → bit (a * b) k ≡ bit (x * y) k
same-product c a x b y e f k h = first a x b e ∙ turned x b ∙ first b y x f ∙ turned y x
  where
    turned : (i j : ℕ) → bit (i * j) k ≡ bit (j * i) k
    turned i j = ap (λ (n : ℕ). bit n k) (mul_comm i j)

    first : (i j n : ℕ) → i % 2 ^ c ≡ j % 2 ^ c → bit (i * n) k ≡ bit (j * n) k
    first i j n g =
        bit-same-low (i * n) (j * n) c k h
        (ap (λ (p : ℕ). i * n % 2 ^ p) (sym (add-zero c)) ∙ lifted i j n c 0 g (mod-one n) ∙ ap (λ (p : ℕ). j * n % 2 ^ p) (add-zero c))

module _ (w c ma va mb vb : ℕ) (F : Formed w ma va mb vb) where
  pub low-both : Formed w (lowest c ma) va (lowest c mb) vb
  low-both = record { most = F.most; first = low-formed w c ma va F.first; second = low-formed w c mb vb F.second }

  -- an unknown column of theirs is unknown
  low-unknown : (k : ℕ) → k < w → bit (product_of w (lowest c ma) va (lowest c mb) vb).mask k ≡ 1 → bit (product_of w ma va mb vb).mask k ≡ 1
  low-unknown k h e = elim (bit-cases (product_of w ma va mb vb).mask k) [
    | inr f ↦ f
    | inl f ↦
        let z = product-steady w (lowest c ma) va (lowest c mb) vb k h _ (λ a b ca cb.
        known-bit w ma va mb vb k h f a b (low-covers w c ma va F.first a ca) (low-covers w c mb vb F.second b cb)) in
        absurd (omega arith)
  ]

  pub low-columns : (k : ℕ) → k < c → k < w
      → bit (product_of w ma va mb vb).mask k ≡ bit (product_of w (lowest c ma) va (lowest c mb) vb).mask k
  low-columns k l h = elim (bit-cases (product_of w (lowest c ma) va (lowest c mb) vb).mask k) [
    | inl e ↦ product-steady w ma va mb vb k h _ (λ a b ca cb.
        same-product c a (part w c ma va F.first a) b (part w c mb vb F.second b) (same_low w c ma va F.first a ca) (same_low w c mb vb F.second b cb) k l
        ∙ known-bit w (lowest c ma) va (lowest c mb) vb k h e _ _ (covers_low w c ma va F.first a) (covers_low w c mb vb F.second b)) ∙ sym e
    | inr e ↦ low-unknown k h e ∙ sym e
  ]

-- r has the unknown columns of the cut operands
pub low-settled : (c ma va mb vb low r : ℕ) → low ≡ 2 ^ c - 1 → UnknownExactly (bit_and ma low) va (bit_and mb low) vb r → SettledIn ma va mb vb r (bit_or r low)
low-settled c ma va mb vb low r e U w F k f h = elim (or_cases r low k f) [
  | inl g ↦ low-unknown w c ma va mb vb F k h (exact k h ∙ g) ∙ sym g
  | inr g ↦ low-columns w c ma va mb vb F k (below k g) h ∙ exact k h
]
  where
    exact : (k : ℕ) → k < w → bit (product_of w (lowest c ma) va (lowest c mb) vb).mask k ≡ bit r k
    exact k h = subst (λ (x : ℕ). UnknownExactly (bit_and ma x) va (bit_and mb x) vb r) e U w (low-both w c ma va mb vb F) k h

    below : (k : ℕ) → bit low k ≡ 1 → k < c
    below k g = elim (dec_lt k c) [ yes l ↦ l | no l ↦ let z = ap (λ (n : ℕ). bit n k) e ∙ bit-ones-above c k (omega arith) in absurd (omega arith) ]
