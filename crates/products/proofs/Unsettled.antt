-- The unknown columns put together from those that plain products settle and those that are worked out. Assumes nothing.
--   Worked m u found rest   of the columns in u, those in rest are left; found has the unknown ones of the others, m being the product's mask
--   granted-word, granted-part, granted-below   what `unknown_among` takes for granted of each column in u
--   known-left              .. with known columns left out
--   settled-or-left         .. from those that the choices below a cut settle, and the others
--   settled-or-worked       the unknown columns, from both
--   known-operands          no column is unknown if no bit of an operand is
use mathlib.Core.Path.{◌≡◌, sym, ap, ap₂, ◌∙◌}
use mathlib.Core.Logic.{◌≢◌, inl, inr}
use Prim.Native.Nat.{ℕ, ◌-◌, ◌*◌, ◌^◌, ◌≤◌, ◌<◌, min, max}
use native.Mathlib.Nat.{le_refl}
use native.Mathlib.Decide.{dec_lt, ℕ_discrete}
use native.Mathlib.Omega.{arith}
use lib.Bits.{bit_and, bit_or, or_lt, and_le_l, and_lt}
use lib.Count.{count_trailing_zeros}
use Rattle.bits.specs.Bit.{bit}
use Rattle.bits.proofs.Bits.{bit-lt, bit-cases, bit-and, bit-or, bit-above, bit-ext, bit-of-zero}
use Rattle.bits.proofs.Constants.{bit-placed, bit-placed-other, bit-ones, bit-complement}
use Rattle.bits.proofs.Numbers.{below-of-bits}
use Rattle.bits.proofs.Words.{bit-clear, or-zero}
use Rattle.bits.proofs.LowestBit.{lowest, clear_at, clear-other}
use Rattle.vectors.specs.Row.{row}
use Rattle.vectors.proofs.BestLaws.{known-covers}
use Rattle.columns.specs.Formed.{Formed}
use Rattle.columns.specs.Settled.{product_of, Marks, AllUnknown, AllKnown, SettledIn}
use Rattle.columns.proofs.ProductMask.{product-steady}
use Rattle.columns.proofs.Parts.{Part}
use Rattle.products.specs.Granted.{Granted}

-- ---- the columns that are worked out

abbrev pub Worked : ℕ → ℕ → ℕ → ℕ → Type 0
Worked m u found rest = (j : ℕ) → bit found j ≡ min (bit u j - bit rest j) (bit m j)

pub worked-start : (m u : ℕ) → Worked m u 0 u
worked-start m u j = bit-of-zero j ∙ omega arith

pub left-next : (u rest : ℕ) → Part u rest → Part u (bit_and rest (rest - 1))
left-next u rest p j = let x = bit-and rest (rest - 1) j in let y = p j in omega arith

pub worked-next : (v m u found rest d : ℕ) → rest ≢ 0 → rest < 2 ^ v → d ≡ bit m (count_trailing_zeros v rest) * 2 ^ count_trailing_zeros v rest
    → Part u rest → Worked m u found rest → Worked m u (bit_or found d) (bit_and rest (rest - 1))
worked-next v m u found rest d n l e p W j = bit-or found d j ∙ elim (ℕ_discrete j (count_trailing_zeros v rest)) [ yes f ↦ at j f | no f ↦ other j f ]
  where
    at : (j : ℕ) → j ≡ count_trailing_zeros v rest → max (bit found j) (bit d j) ≡ min (bit u j - bit (bit_and rest (rest - 1)) j) (bit m j)
    at j f =
        let a : bit d j ≡ bit m j =
        ap (λ (x : ℕ). bit x j) e ∙ ap (bit (bit m (count_trailing_zeros v rest) * 2 ^ count_trailing_zeros v rest)) f
        ∙ bit-placed (bit m (count_trailing_zeros v rest)) (count_trailing_zeros v rest) (bit-lt m (count_trailing_zeros v rest))
        ∙ ap (bit m) (sym f) in
        let b = ap (bit rest) f ∙ (lowest v rest n l).1 in
        let c = ap (bit (bit_and rest (rest - 1))) f ∙ clear_at v rest n l in
        let g = p j in
        let h = W j in
        let i = bit-lt u j in
        let k = bit-lt m j in
        omega arith

    other : (j : ℕ) → j ≢ count_trailing_zeros v rest → max (bit found j) (bit d j) ≡ min (bit u j - bit (bit_and rest (rest - 1)) j) (bit m j)
    other j f =
        let a : bit d j ≡ 0 = ap (λ (x : ℕ). bit x j) e ∙ bit-placed-other (bit m (count_trailing_zeros v rest)) (count_trailing_zeros v rest) j (bit-lt m (count_trailing_zeros v rest)) f in
        let c = clear-other v rest n l j f in
        let h = W j in
        omega arith

pub worked-end : (w m u found rest : ℕ) → u < 2 ^ w → m < 2 ^ w → rest ≡ 0 → Worked m u found rest → found ≡ bit_and u m
worked-end w m u found rest h i z W =
    bit-ext w found (bit_and u m) (below-of-bits w found (λ j l. at j ∙ (let y = bit-above w u j h l in omega arith))) (and_lt w u m h i)
    (λ j l. at j ∙ sym (bit-and u m j))
  where
    at : (j : ℕ) → bit found j ≡ min (bit u j) (bit m j)
    at j = let x = ap (λ (n : ℕ). bit n j) z ∙ bit-of-zero j in let y = W j in omega arith

-- ---- what is taken for granted of each column

module _ (ma va mb vb : ℕ) where
  pub granted-word : (n : ℕ) → Marks (Granted ma va mb vb) n → n < 2 ^ 32
  granted-word n M = below-of-bits 32 n (λ k l. elim (bit-cases n k) [
    | inl e ↦ e
    | inr e ↦ let g = M k e in absurd (omega (arith, g.formed.most, g.below))
  ])

  pub granted-part : (n x : ℕ) → Marks (Granted ma va mb vb) n → Marks (Granted ma va mb vb) (bit_and n x)
  granted-part n x M k e = M k (let d = bit-and n x k in let l = bit-lt n k in omega arith)

  pub granted-below : (w n : ℕ) → Formed w ma va mb vb → n < 2 ^ w → Marks (Granted ma va mb vb) n
  granted-below w n F h k e =
      record {
        width = w;
        formed = F;
        below = elim (dec_lt k w) [ yes l ↦ l | no l ↦ absurd (omega (arith, bit-above w n k h (omega arith))) ];
      }

-- ---- the columns that the choices below a cut settle, and the others

module _ (w ma va mb vb u : ℕ) (F : Formed w ma va mb vb) (h : u < 2 ^ w) where
  abbrev m : ℕ
  m = (product_of w ma va mb vb).mask

  part : (x y : ℕ) → x ≤ u → bit_and x y < 2 ^ w
  part x y l = let i = and_le_l x y in omega arith

  -- known columns left out
  pub known-left : (n r : ℕ) → n < 2 ^ 32 → AllKnown ma va mb vb n → r ≡ bit_and (bit_and u (2 ^ 32 - 1 - n)) m → r ≡ bit_and u m
  known-left n r hn B e =
      let o = F.most in
      e ∙ bit-ext w (bit_and (bit_and u (2 ^ 32 - 1 - n)) m) (bit_and u m) (part (bit_and u (2 ^ 32 - 1 - n)) m (and_le_l u (2 ^ 32 - 1 - n))) (part u m (le_refl u)) (λ k l.
      bit-and (bit_and u (2 ^ 32 - 1 - n)) m k ∙ ap (λ (x : ℕ). min x (bit m k)) (bit-clear 32 u n k hn (omega arith)) ∙ at k l ∙ sym (bit-and u m k))
    where
      at : (k : ℕ) → k < w → min (min (bit u k) (1 - bit n k)) (bit m k) ≡ min (bit u k) (bit m k)
      at k l = elim (bit-cases n k) [
        | inl x ↦ let y = bit-lt u k in let z : min (bit u k) (1 - bit n k) ≡ bit u k = omega arith in ap (λ (i : ℕ). min i (bit m k)) z
        | inr x ↦ let z = B w F k x l in ap (min (min (bit u k) (1 - bit n k))) z ∙ none (min (bit u k) (1 - bit n k)) ∙ sym (none (bit u k)) ∙ ap (min (bit u k)) (sym z)
      ]
        where
          none : (i : ℕ) → min i 0 ≡ 0
          none i = omega arith

  pub settled-or-left : (s n r : ℕ) → s < 2 ^ 32 → n < 2 ^ 32 → SettledIn ma va mb vb s (bit_or s n) → r ≡ bit_and (bit_and u (2 ^ 32 - 1 - bit_or s n)) m
      → bit_or (bit_and u s) r ≡ bit_and u m
  settled-or-left s n r hs hn S e =
      let o = F.most in
      bit-ext w (bit_or (bit_and u s) r) (bit_and u m) (or_lt w (bit_and u s) r (part u s (le_refl u)) (omega (arith, part (bit_and u rest) m (and_le_l u rest))))
      (part u m (le_refl u)) (λ k l.
      bit-or (bit_and u s) r k
      ∙ ap₂ max (bit-and u s k)
      (ap (λ (x : ℕ). bit x k) e ∙ bit-and (bit_and u rest) m k ∙ ap (λ (x : ℕ). min x (bit m k)) (bit-clear 32 u (bit_or s n) k (or_lt 32 s n hs hn) (omega arith)))
      ∙ at k l
      ∙ sym (bit-and u m k))
    where
      rest : ℕ
      rest = 2 ^ 32 - 1 - bit_or s n

      at : (k : ℕ) → k < w → max (min (bit u k) (bit s k)) (min (min (bit u k) (1 - bit (bit_or s n) k)) (bit m k)) ≡ min (bit u k) (bit m k)
      at k l = elim (bit-cases (bit_or s n) k) [
        | inl x ↦
            let y = bit-lt u k in
            let a : min (bit u k) (bit s k) ≡ 0 = omega (arith, bit-or s n k) in
            let b : min (bit u k) (1 - bit (bit_or s n) k) ≡ bit u k = omega arith in
            ap₂ (λ (i j : ℕ). max i (min j (bit m k))) a b ∙ omega arith
        | inr x ↦
            let z = S w F k x l in
            let b : min (bit u k) (1 - bit (bit_or s n) k) ≡ 0 = omega arith in
            ap₂ (λ (i j : ℕ). max (min (bit u k) i) (min j (bit m k))) (sym z) b ∙ omega arith
      ]

-- ---- what is settled and what is not

module _ (w ma va mb vb s n u r : ℕ) (F : Formed w ma va mb vb) (hs : s < 2 ^ 32) (hn : n < 2 ^ 32) where
  pub settled-or-worked : AllUnknown ma va mb vb s → AllKnown ma va mb vb n → u ≡ bit_and (2 ^ 32 - 1 - bit_or s n) (2 ^ w - 1)
      → r ≡ bit_and u (product_of w ma va mb vb).mask → (k : ℕ) → k < w → bit (bit_or s r) k ≡ bit (product_of w ma va mb vb).mask k
  settled-or-worked A B e f k h =
      let m = F.most in
      let a = bit-or s r k in
      let b = ap (λ (x : ℕ). bit x k) f ∙ bit-and u (product_of w ma va mb vb).mask k in
      let c = ap (λ (x : ℕ). bit x k) e ∙ bit-and (2 ^ 32 - 1 - bit_or s n) (2 ^ w - 1) k in
      let d = bit-complement 32 (bit_or s n) k (or_lt 32 s n hs hn) (omega arith) in
      let o = bit-ones w k h in
      let p = bit-or s n k in
      let q = bit-lt (product_of w ma va mb vb).mask k in
      elim (bit-cases s k) [
        | inr y ↦ let z = A w F k y h in omega arith
        | inl y ↦ elim (bit-cases n k) [
          | inr x ↦ let z = B w F k x h in omega arith
          | inl x ↦ omega arith
        ]
      ]

pub known-operands : (w ma va mb vb : ℕ) → Formed w ma va mb vb → bit_or ma mb ≡ 0 → (k : ℕ) → k < w → bit 0 k ≡ bit (product_of w ma va mb vb).mask k
known-operands w ma va mb vb F e k h =
    let (p, q) = or-zero ma mb e in
    bit-of-zero k
    ∙ sym (product-steady w ma va mb vb k h (bit (va * vb) k) (λ a b ca cb.
    ap (λ (n : ℕ). bit (n * b) k) (known-covers (row w ma va) a F.first p ca) ∙ ap (λ (n : ℕ). bit (va * n) k) (known-covers (row w mb vb) b F.second q cb)))
