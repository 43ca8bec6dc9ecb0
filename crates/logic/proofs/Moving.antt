-- The law of kernels that move bits: each output bit is one bit of one operand, or 0 whatever the operands.
-- The result's mask is then the plain number of the operands' masks, and its value that of their values. Assumes nothing.
--   From f ws k    bit k of f is one bit of one operand, for numbers below 2 to the power of the widths ws
--   Moved f ws k   that, or bit k of f is 0
use Rattle.std.proofs.Common.{◌≡◌, ℕ, zero, suc, ◌^◌, ◌<◌, ◌⊎◌, List, [], ◌∷◌, map, get_or, sym, refl, ap, ◌∙◌, subst, ap₂, inl, inr, arith, pow_pos}
use native.Mathlib.Decide.{dec_lt}
use lib.ListN.{get_or-map}
use Rattle.bits.specs.Bit.{bit}
use Rattle.bits.proofs.Bits.{bit-above}
use Rattle.vectors.specs.Lists.{All}
use Rattle.vectors.specs.Row.{Row, row, WellFormed}
use Rattle.vectors.specs.Choice.{Chosen}
use Rattle.vectors.specs.Best.{best}
use Rattle.vectors.proofs.Lists.{pointwise-map}
use Rattle.vectors.proofs.Rows.{covered-bit}
use Rattle.vectors.proofs.Bests.{Gives, best-from-bits}
use Rattle.operations.specs.Kind.{Kind}
use Rattle.operations.specs.Kinds.{kinds, op_none}
use Rattle.operations.specs.Result.{Below, widths_of, result_of, Ready}
use Rattle.operations.proofs.Bounded.{Bounded, all-bounded}
use Rattle.vectors.proofs.Operands.{no_row, formed-at, chosen_at, choose-at, below-chosen}

pub record From (f : List ℕ → ℕ) (ws : List ℕ) (k : ℕ) : Type 0 where
  pub operand : ℕ
  pub place : ℕ
  pub inside : place < get_or ws operand 0
  pub moves : (ns : List ℕ) → Below ws ns → bit (f ns) k ≡ bit (get_or ns operand 0) place

abbrev pub Moved : (List ℕ → ℕ) → List ℕ → ℕ → Type 0
Moved f ws k = ((ns : List ℕ) → Below ws ns → bit (f ns) k ≡ 0) ⊎ From f ws k

-- ---- the law

module _ (wt : ℕ) (f : List ℕ → ℕ) (rows : List Row) (W : All WellFormed rows) (L : (ns : List ℕ) → Below (widths_of rows) ns → f ns < 2 ^ wt)
    (M : (k : ℕ) → k < wt → Moved f (widths_of rows) k) where
  masks : List ℕ
  masks = map (λ r. r.mask) rows

  values : List ℕ
  values = map (λ r. r.value) rows

  masks-below : Below (widths_of rows) masks
  unfolding masks
  masks-below = pointwise-map (λ w n. n < 2 ^ w) (λ r. r.width) (λ r. r.mask) (λ r F. F.mask_below) rows W

  values-below : Below (widths_of rows) values
  unfolding values
  values-below = pointwise-map (λ w n. n < 2 ^ w) (λ r. r.width) (λ r. r.value) (λ r F. F.value_below) rows W

  mask-from : (k : ℕ) (m : From f (widths_of rows) k) → bit (f masks) k ≡ bit (get_or rows m.operand no_row).mask m.place
  unfolding masks
  mask-from k m = m.moves masks masks-below ∙ ap (λ (n : ℕ). bit n m.place) (get_or-map (λ r. r.mask) rows m.operand no_row)

  value-from : (k : ℕ) (m : From f (widths_of rows) k) → bit (f values) k ≡ bit (get_or rows m.operand no_row).value m.place
  unfolding values
  value-from k m = m.moves values values-below ∙ ap (λ (n : ℕ). bit n m.place) (get_or-map (λ r. r.value) rows m.operand no_row)

  gives : (k b : ℕ) → b < 2 → bit (f masks) k ≡ 1 → From f (widths_of rows) k → Gives f rows k b
  gives k b h e m =
      let (n, c, z) = covered-bit (get_or rows m.operand no_row) (formed-at rows W m.operand) m.place b h (inl (sym (mask-from k m) ∙ e)) in
      let (ns, d, y) = choose-at rows W m.operand n c in
      record { numbers = ns; chosen = d; gives = m.moves ns (below-chosen rows ns d) ∙ ap (λ (x : ℕ). bit x m.place) y ∙ z }

  unknown : (k : ℕ) → k < wt → bit (f masks) k ≡ 1 → Gives f rows k 0 × Gives f rows k 1
  unknown k h e =
      elim (M k h) [
        | inl z ↦ let y = z masks masks-below in absurd (omega arith)
        | inr m ↦ (gives k 0 (omega arith) e m, gives k 1 (omega arith) e m)
      ]

  known : (k : ℕ) → k < wt → bit (f masks) k ≡ 0 → (ns : List ℕ) → Chosen rows ns → bit (f ns) k ≡ bit (f values) k
  known k h e ns c =
      elim (M k h) [
        | inl z ↦ z ns (below-chosen rows ns c) ∙ sym (z values values-below)
        | inr m ↦
            m.moves ns (below-chosen rows ns c)
            ∙ (chosen_at rows ns c m.operand).agrees m.place (rw (get_or-map (λ r. r.width) rows m.operand no_row) at m.inside) (sym (mask-from k m) ∙ e)
            ∙ sym (value-from k m)
      ]

  apart : (k : ℕ) → bit (f masks) k ≡ 1 → bit (f values) k ≡ 0
  apart k e =
      elim (dec_lt k wt) [
        | no h ↦ bit-above wt (f values) k (L values values-below) (omega arith)
        | yes h ↦ elim (M k h) [
          | inl z ↦ z values values-below
          | inr m ↦ value-from k m ∙ (formed-at rows W m.operand).apart m.place (sym (mask-from k m) ∙ e)
        ]
      ]

  pub moving-best : row wt (f (map (λ r. r.mask) rows)) (f (map (λ r. r.value) rows)) ≡ best wt f rows
  unfolding masks values
  moving-best =
      best-from-bits W (record {
        width_is = refl;
        formed = record { mask_below = L masks masks-below; value_below = L values values-below; apart = apart };
        unknown = unknown;
        known = known;
      })

-- ---- for a kind: both planes of the result are its plain number on the operands' planes

bounded-in : (ks : List Kind) → All Bounded ks → (n : ℕ) → Bounded (get_or ks n op_none)
bounded-in [] B n = λ wt p ws ns t c. pow_pos wt
bounded-in (k ∷ ks) B zero = B.0
bounded-in (k ∷ ks) B (suc n) = bounded-in ks B.1 n

pub moving-result : {kind : Kind} {wt p m v : ℕ} {rows : List Row} (n : ℕ) → get_or kinds n op_none ≡ kind → Ready kind wt p rows
    → ((k : ℕ) → k < wt → Moved (kind.plain wt (widths_of rows) p) (widths_of rows) k)
    → m ≡ kind.plain wt (widths_of rows) p (map (λ r. r.mask) rows) → v ≡ kind.plain wt (widths_of rows) p (map (λ r. r.value) rows)
    → row wt m v ≡ result_of kind wt p rows
unfolding result_of
moving-result {kind} {wt} {p} {m} {v} {rows} n i R M d e =
    ap₂ (row wt) d e
    ∙ moving-best wt (kind.plain wt (widths_of rows) p) rows R.formed
    (λ ns b. subst Bounded i (bounded-in kinds all-bounded n) wt p (widths_of rows) ns R.fits b) M
