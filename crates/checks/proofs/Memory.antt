-- Checks 7 to 10 of a load and a store, as the code makes them. Assumes nothing.
use mathlib.Core.Path.{◌≡◌, refl, sym, ap, ◌∙◌}
use mathlib.Core.Bool.{Bool, true, false, ◌&&◌, ◌||◌}
use mathlib.Core.List.{List, [], ◌∷◌}
use Prim.Native.Nat.{ℕ, ◌+◌}
use native.Mathlib.Decide.{ℕ_discrete}
use borrow.Author.Tests.{eq-eqb, ne_eqb}
use lib.Dec.{T, eqb}
use Rattle.bits.specs.Counted.{listed}
use Rattle.bits.proofs.Bools.{and-true}
use Rattle.vectors.specs.Lists.{all_of, some_of}
use Rattle.vectors.proofs.Lists.{all_of-mapped, all_of-same}
use Rattle.vectors.proofs.ListParts.{listed-map, listed-from}
use Rattle.operations.specs.Kind.{as_row, is_row}
use Rattle.operations.specs.Kinds.{is_kind, kind_of}
use Rattle.operations.specs.Memory.{span}
use Rattle.operations.specs.declared.Record.{Record}
use Rattle.operations.specs.Record.{words_of, rows_named, target_rows, width_at, cell_part, parts_of}
use Rattle.operations.specs.Faults.{part_fits, named_faults, widths_fit}
use Rattle.operations.proofs.Parts.{one-target}
use Rattle.checks.specs.Check.{placed, verdict}
use Rattle.checks.specs.Model.{judged}
use Rattle.checks.specs.Encoding.{span_faults}

-- the words of a record of a known kind
abbrev pub words : ℕ → Record → List ℕ
words k r = k ∷ r.t ∷ r.a ∷ r.b ∷ r.p ∷ r.c ∷ []

-- ---- checks 7 and 8: those that cannot fail are left out

module _ (n : ℕ) (r : Record) (i : ℕ) where
  load-faults : judged (placed i (named_faults n (words 24 r))) ≡ judged (placed i (span_faults n r.t r.a r.c r.p r.b))
  unfolding verdict is_kind kind_of
  load-faults = refl

  store_faults : judged (placed i (named_faults n (words 25 r))) ≡ judged (placed i (span_faults n r.a r.b r.c r.p r.t))
  unfolding verdict is_kind kind_of
  store_faults = refl

  pub of-load : r.kind ≡ 24 → judged (placed i (named_faults n (words_of r))) ≡ judged (placed i (span_faults n r.t r.a r.c r.p r.b))
  of-load e = ap (λ (k : ℕ). judged (placed i (named_faults n (words k r)))) e ∙ load-faults

  pub of-store : r.kind ≡ 25 → judged (placed i (named_faults n (words_of r))) ≡ judged (placed i (span_faults n r.a r.b r.c r.p r.t))
  of-store e = ap (λ (k : ℕ). judged (placed i (named_faults n (words k r)))) e ∙ store_faults

-- ---- the row whose width the cells have

pub load_row_lem : (r : Record) → r.kind ≡ 24 → (kind_of r.kind).use_t ≡ as_row
unfolding kind_of
load_row_lem r e = ap (λ (k : ℕ). (kind_of k).use_t) e

pub store-row : (r : Record) → r.kind ≡ 25 → (kind_of r.kind).use_b ≡ as_row
unfolding kind_of
store-row r e = ap (λ (k : ℕ). (kind_of k).use_b) e

-- ---- check 9

-- the test of a cell of a store, whose own width is among its operands'
cell-fits : (w d : ℕ) → (eqb w d && (eqb w w && true)) ≡ eqb d w
cell-fits w d =
    elim (ℕ_discrete w d) [
      | yes e ↦ (λ ι. eq-eqb w d e ι && (eq-eqb w w refl ι && true)) ∙ sym (eq-eqb d w (sym e))
      | no e ↦ ap (λ (b : Bool). b && (eqb w w && true)) (ne_eqb w d e) ∙ sym (ne_eqb d w (λ f. e (sym f)))
    ]

module _ (widths : List ℕ) (r : Record) where
  load-widths : widths_fit widths (words 24 r) ≡ all_of (λ i. eqb (width_at widths r.t) (width_at widths i)) (span r.c r.p)
  unfolding parts_of rows_named kind_of all_of
  load-widths = and-true _ ∙ all_of-mapped (eqb (width_at widths r.t)) (width_at widths) (span r.c r.p)

  -- whatever the test of a part, of the cell alone
  cells_of : (q : ℕ → Bool) → ((j : ℕ) → part_fits widths (words 25 r) (cell_part (words 25 r) j) ≡ q (r.c + j))
      → all_of (part_fits widths (words 25 r)) (listed (cell_part (words 25 r)) 0 r.p) ≡ all_of q (span r.c r.p)
  cells_of q e =
      ap (all_of (part_fits widths (words 25 r))) (sym (listed-map (cell_part (words 25 r)) (λ j. j) 0 r.p))
      ∙ all_of-mapped (part_fits widths (words 25 r)) (cell_part (words 25 r)) (span 0 r.p)
      ∙ all_of-same _ (λ j. q (r.c + j)) e (span 0 r.p)
      ∙ sym (all_of-mapped q (λ j. r.c + j) (span 0 r.p))
      ∙ ap (all_of q) (listed-map (λ j. r.c + j) (λ j. j) 0 r.p ∙ listed-from (λ j. j) r.c r.p)

  store-widths : widths_fit widths (words 25 r) ≡ all_of (λ i. eqb (width_at widths r.b) (width_at widths i)) (span r.c r.p)
  unfolding parts_of kind_of all_of
  store-widths = cells_of (λ i. eqb (width_at widths r.b) (width_at widths i)) (λ j. cell-fits (width_at widths (r.c + j)) (width_at widths r.b))

  pub load_fits : r.kind ≡ 24 → widths_fit widths (words_of r) ≡ all_of (λ i. eqb (width_at widths r.t) (width_at widths i)) (span r.c r.p)
  load_fits e = ap (λ (k : ℕ). widths_fit widths (words k r)) e ∙ load-widths

  pub store-fits : r.kind ≡ 25 → widths_fit widths (words_of r) ≡ all_of (λ i. eqb (width_at widths r.b) (width_at widths i)) (span r.c r.p)
  store-fits e = ap (λ (k : ℕ). widths_fit widths (words k r)) e ∙ store-widths

-- ---- check 10

-- a test of the rows that a record writes: of the cells of a store, or of its row t
module _ (p : ℕ → Bool) (r : Record) where
  store-some : some_of p (target_rows (words 25 r)) ≡ some_of p (span r.c r.p)
  unfolding target_rows kind_of
  store-some = refl

  pub store-targets : r.kind ≡ 25 → some_of p (target_rows (words_of r)) ≡ some_of p (span r.c r.p)
  store-targets e = ap (λ (k : ℕ). some_of p (target_rows (words k r))) e ∙ store-some

  pub row-targets : T (is_row (kind_of r.kind).use_t) → some_of p (target_rows (words_of r)) ≡ p r.t
  unfolding some_of
  row-targets t = ap (some_of p) (one-target (words_of r) t) ∙ or-false (p r.t)
    where
      or-false : (b : Bool) → (b || false) ≡ b
      or-false true = refl
      or-false false = refl
