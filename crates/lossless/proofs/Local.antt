-- An operation of which no operand bit bears on two result bits loses nothing. Assumes nothing.
--   Lossless w f rows   what the best result of f at width w covers, f gives on some choice of covered operands
--   Local w ws f        f, to width w from operands of the widths ws: bit q of operand p bears on result bit `owner p q` alone
--   mix rows h          the operands that have the bits h, of the rows' widths
--   FromRows rows h     each of the bits h is that of a number that its row covers
use mathlib.Core.Path.{◌≡◌, sym, ap, ◌∙◌}
use mathlib.Core.Bool.{Bool}
use mathlib.Core.Logic.{inl, inr}
use mathlib.Core.List.{List, [], ◌∷◌}
use Prim.Native.Nat.{ℕ, zero, suc, ◌^◌, ◌<◌}
use native.Mathlib.Decide.{dec_lt}
use native.Mathlib.Omega.{arith}
use lib.Arith.{lt-one}
use lib.ListN.{get_or}
use Rattle.bits.specs.Bit.{bit, is_set, digit, number}
use Rattle.bits.proofs.Bits.{bit-cases, bit-ext, bit-above, bit-number, number-below}
use Rattle.bits.proofs.Numbers.{digit-is_set}
use Rattle.vectors.specs.Lists.{All}
use Rattle.vectors.specs.Row.{Row, WellFormed, Covers}
use Rattle.vectors.specs.Choice.{Chosen}
use Rattle.vectors.specs.Best.{best}
use Rattle.vectors.specs.Hull.{Results}
use Rattle.vectors.proofs.Choices.{some-chosen}
use Rattle.vectors.proofs.Bests.{best-by-bits}
use Rattle.vectors.proofs.Operands.{no_row, chosen_at, below-chosen}
use Rattle.operations.specs.Result.{Below, widths_of}

abbrev pub Lossless : ℕ → (List ℕ → ℕ) → List Row → Type 0
Lossless w f rows = (n : ℕ) → Covers (best w f rows) n → Results f rows n

pub record Local (w : ℕ) (ws : List ℕ) (f : List ℕ → ℕ) : Type 0 where
  pub owner : ℕ → ℕ → ℕ
  pub apart : (ns ms : List ℕ) → Below ws ns → Below ws ms → (k : ℕ) → k < w
      → ((p q : ℕ) → owner p q ≡ k → bit (get_or ns p 0) q ≡ bit (get_or ms p 0) q) → bit (f ns) k ≡ bit (f ms) k

-- ---- operands of given bits

mix : List Row → (ℕ → ℕ → Bool) → List ℕ
mix [] h = []
mix (r ∷ rs) h = number r.width (h 0) ∷ mix rs (λ p. h (suc p))

abbrev FromRows : List Row → (ℕ → ℕ → Bool) → Type 0
FromRows rows h = (p q : ℕ) → (n : ℕ) × Covers (get_or rows p no_row) n × (bit n q ≡ digit (h p q))

mix-chosen : (rows : List Row) (h : ℕ → ℕ → Bool) → FromRows rows h → Chosen rows (mix rows h)
unfolding mix
mix-chosen [] h c = tt
mix-chosen (r ∷ rs) h c = (
  record {
    below = number-below r.width (h 0);
    agrees = λ k l e. let (n, C, b) = c 0 k in bit-number r.width (h 0) k l ∙ sym b ∙ C.agrees k l e;
  },
  mix-chosen rs (λ p. h (suc p)) (λ p. c (suc p)),
)

mix-bit : (rows : List Row) (h : ℕ → ℕ → Bool) → FromRows rows h → (p q : ℕ) → bit (get_or (mix rows h) p 0) q ≡ digit (h p q)
unfolding mix
mix-bit [] h c p q = let (n, C, b) = c p q in ap (λ (x : ℕ). bit x q) (sym (lt-one C.below)) ∙ b
mix-bit (r ∷ rs) h c zero q =
    elim (dec_lt q r.width) [
      | yes l ↦ bit-number r.width (h 0) q l
      | no l ↦
          let (n, C, b) = c 0 q in
          bit-above r.width _ q (number-below r.width (h 0)) (omega arith) ∙ sym (bit-above r.width n q C.below (omega arith)) ∙ b
    ]
mix-bit (r ∷ rs) h c (suc p) q = mix-bit rs (λ p. h (suc p)) (λ p. c (suc p)) p q

-- ---- the law

-- each operand bit is taken from a choice that gives the right bit where it bears: together these give all of them
module _ (w : ℕ) (f : List ℕ → ℕ) (rows : List Row) (F : All WellFormed rows) (bounded : (ns : List ℕ) → Below (widths_of rows) ns → f ns < 2 ^ w) (L : Local w (widths_of rows) f) where
  choice : (n : ℕ) → Covers (best w f rows) n → (k : ℕ) → (ns : List ℕ) × Chosen rows ns × (k < w → bit (f ns) k ≡ bit n k)
  choice n C k =
      let B = best-by-bits w f rows in
      let (us, U) = some-chosen rows F in
      elim (dec_lt k w) [
        | no h ↦ (us, U, (λ l. absurd (h l)))
        | yes h ↦ elim (bit-cases (best w f rows).mask k) [
          | inl e ↦ (us, U, (λ l. B.known k h e us U ∙ sym (C.agrees k (rw B.width_is h) e)))
          | inr e ↦ elim (bit-cases n k) [
            | inl z ↦ let g = (B.unknown k h e).0 in (g.numbers, g.chosen, (λ l. g.gives ∙ sym z))
            | inr z ↦ let g = (B.unknown k h e).1 in (g.numbers, g.chosen, (λ l. g.gives ∙ sym z))
          ]
        ]
      ]

  pub lossless : Lossless w f rows
  lossless n C =
      let c : (k : ℕ) → (ns : List ℕ) × Chosen rows ns × (k < w → bit (f ns) k ≡ bit n k) = choice n C in
      let h : ℕ → ℕ → Bool = λ p q. is_set (get_or (c (L.owner p q)).0 p 0) q in
      let from : FromRows rows h = λ p q. (get_or (c (L.owner p q)).0 p 0, chosen_at rows (c (L.owner p q)).0 (c (L.owner p q)).1 p, sym (digit-is_set _ q)) in
      let m = mix rows h in
      let M = mix-chosen rows h from in
      let below = below-chosen rows m M in
      record {
        numbers = m;
        chosen = M;
        gives = bit-ext w (f m) n (bounded m below) (rw (best-by-bits w f rows).width_is at C.below) (λ k l.
            L.apart m (c k).0 below (below-chosen rows (c k).0 (c k).1) k l
            (λ p q e. mix-bit rows h from p q ∙ digit-is_set _ q ∙ ap (λ (j : ℕ). bit (get_or (c j).0 p 0) q) e)
            ∙ (c k).2 l);
      }
