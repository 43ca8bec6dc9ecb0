-- The law of kernels that work bit by bit: each output bit is a function of the operands' bits at the same place.
-- Where each bit of a vector is the best result at width 1 of the operands' bits there, the vector is the best result. Assumes nothing.
--   bits_at k ns     bit k of each number
--   bit_of k r       bit k of a row, as a row of width 1
--   rows_at k rows   bit k of each row
use Rattle.std.proofs.Common.{◌≡◌, ℕ, ◌^◌, ◌<◌, List, [], ◌∷◌, map, get_or, sym, refl, ap, ◌∙◌, subst, ap₂, inl, inr, mod-eq_of_lt, arith}
use native.Mathlib.Decide.{dec_lt}
use lib.Arith.{lt-one}
use lib.ListN.{get_or-map}
use Rattle.bits.specs.Bit.{bit}
use Rattle.bits.proofs.Bits.{bit-lt, bit-cases, bit-zero, bit-above, bit-of-zero}
use Rattle.vectors.specs.Lists.{All}
use Rattle.vectors.specs.Row.{Row, row, WellFormed, Covers}
use Rattle.vectors.specs.Choice.{Chosen}
use Rattle.vectors.specs.Best.{best}
use Rattle.vectors.proofs.Rows.{covered-bit}
use Rattle.vectors.proofs.Bests.{Gives, ByBits, best-by-bits, best-from-bits}

abbrev pub bits_at : ℕ → List ℕ → List ℕ
bits_at k ns = map (λ n. bit n k) ns

abbrev pub bit_of : ℕ → Row → Row
bit_of k r = row 1 (bit r.mask k) (bit r.value k)

abbrev pub rows_at : ℕ → List Row → List Row
rows_at k rows = map (bit_of k) rows

pub bits_at-get_or : (k : ℕ) (ns : List ℕ) (i : ℕ) → get_or (bits_at k ns) i 0 ≡ bit (get_or ns i 0) k
bits_at-get_or k ns i = ap (get_or (bits_at k ns) i) (sym (bit-of-zero k)) ∙ get_or-map (λ n. bit n k) ns i 0

-- ---- bit 0 of a bit is the bit

pub bit-one : (n : ℕ) → n < 2 → (j : ℕ) → j < 1 → bit n j ≡ n
bit-one n l j h = ap (bit n) (lt-one h) ∙ bit-zero n ∙ mod-eq_of_lt l

bit-bit : (n k j : ℕ) → j < 1 → bit (bit n k) j ≡ bit n k
bit-bit n k j h = bit-one (bit n k) (bit-lt n k) j h

-- ---- choices from the rows are choices from the rows' bits

covers-bit : (k : ℕ) (r : Row) (n : ℕ) → k < r.width → Covers r n → Covers (bit_of k r) (bit n k)
covers-bit k r n h c =
    record {
      below = bit-lt n k;
      agrees = λ j l e. bit-bit n k j l ∙ c.agrees k h (sym (bit-bit r.mask k j l) ∙ e) ∙ sym (bit-bit r.value k j l);
    }

chosen-bits : (w k : ℕ) → k < w → (rows : List Row) → All (λ r. r.width ≡ w) rows → (ns : List ℕ) → Chosen rows ns → Chosen (rows_at k rows) (bits_at k ns)
chosen-bits w k h [] e [] c = tt
chosen-bits w k h [] e (n ∷ ns) c = absurd c
chosen-bits w k h (r ∷ rs) e [] c = absurd c
chosen-bits w k h (r ∷ rs) e (n ∷ ns) c = (covers-bit k r n (rw e.0 h) c.0, chosen-bits w k h rs e.1 ns c.1)

covered-at : (k : ℕ) (r : Row) (b : ℕ) → WellFormed r → Covers (bit_of k r) b → (n : ℕ) × Covers r n × (bit n k ≡ b)
covered-at k r b F c =
    elim (bit-cases r.mask k) [
      | inr e ↦ covered-bit r F k b c.below (inl e)
      | inl e ↦
          let l : 0 < 1 = omega arith in
          covered-bit r F k b c.below (inr (sym (bit-bit r.value k 0 l) ∙ sym (c.agrees 0 l (bit-bit r.mask k 0 l ∙ e)) ∙ bit-one b c.below 0 l))
    ]

covered-at-all : (k : ℕ) (rows : List Row) (bs : List ℕ) → All WellFormed rows → Chosen (rows_at k rows) bs → (ns : List ℕ) × Chosen rows ns × (bits_at k ns ≡ bs)
covered-at-all k [] [] F c = ([], tt, refl)
covered-at-all k [] (b ∷ bs) F c = absurd c
covered-at-all k (r ∷ rs) [] F c = absurd c
covered-at-all k (r ∷ rs) (b ∷ bs) F c =
    let (n, d, e) = covered-at k r b F.0 c.0 in
    let (ns, ds, es) = covered-at-all k rs bs F.1 c.1 in
    (n ∷ ns, (d, ds), ap₂ ◌∷◌ e es)

-- ---- the law

pub record Bitwise (w : ℕ) (f : List ℕ → ℕ) (F : List ℕ → ℕ) (rows : List Row) (r : Row) : Type 0 where
  pub width_is : r.width ≡ w
  pub widths : All (λ q. q.width ≡ w) rows
  pub mask_below : r.mask < 2 ^ w
  pub value_below : r.value < 2 ^ w
  pub plain : (k : ℕ) → k < w → (ns : List ℕ) → Chosen rows ns → bit (f ns) k ≡ F (bits_at k ns)
  pub each_bit : (k : ℕ) → k < w → bit_of k r ≡ best 1 F (rows_at k rows)

pub bitwise-best : (w : ℕ) (f F : List ℕ → ℕ) (rows : List Row) (r : Row) → All WellFormed rows → Bitwise w f F rows r → r ≡ best w f rows
bitwise-best w f F rows r W B =
    best-from-bits W (record {
      width_is = B.width_is;
      formed = record { mask_below = rw B.width_is B.mask_below; value_below = rw B.width_is B.value_below; apart = apart };
      unknown = λ k h e. let (p, q) = (at k h).unknown 0 zero-lt (bit-bit r.mask k 0 zero-lt ∙ e) in (given k h 0 p, given k h 1 q);
      known = λ k h e ns c.
          sym (plain-bit k h ns c)
          ∙ (at k h).known 0 zero-lt (bit-bit r.mask k 0 zero-lt ∙ e) (bits_at k ns) (chosen-bits w k h rows B.widths ns c)
          ∙ bit-bit r.value k 0 zero-lt;
    })
  where
    zero-lt : 0 < 1
    zero-lt = omega arith

    at : (k : ℕ) → k < w → ByBits 1 F (rows_at k rows) (bit_of k r)
    at k h = subst (ByBits 1 F (rows_at k rows)) (sym (B.each_bit k h)) (best-by-bits 1 F (rows_at k rows))

    plain-bit : (k : ℕ) → k < w → (ns : List ℕ) → Chosen rows ns → bit (F (bits_at k ns)) 0 ≡ bit (f ns) k
    plain-bit k h ns c = ap (λ (x : ℕ). bit x 0) (sym (B.plain k h ns c)) ∙ bit-bit (f ns) k 0 zero-lt

    given : (k : ℕ) → k < w → (b : ℕ) → Gives F (rows_at k rows) 0 b → Gives f rows k b
    given k h b g =
        let (ns, c, e) = covered-at-all k rows g.numbers W g.chosen in
        record { numbers = ns; chosen = c; gives = sym (plain-bit k h ns c) ∙ ap (λ (bs : List ℕ). bit (F bs) 0) e ∙ g.gives }

    apart : (k : ℕ) → bit r.mask k ≡ 1 → bit r.value k ≡ 0
    apart k e =
        elim (dec_lt k w) [
          | yes h ↦ sym (bit-bit r.value k 0 zero-lt) ∙ (at k h).formed.apart 0 (bit-bit r.mask k 0 zero-lt ∙ e)
          | no h ↦ bit-above w r.value k B.value_below (omega arith)
        ]
