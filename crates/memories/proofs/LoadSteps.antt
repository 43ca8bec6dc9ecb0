-- A load over a table's rows: its span is a part of the slices, and its result that of its effect. Assumes nothing.
use mathlib.Core.Path.{◌≡◌, sym, ap, ◌∙◌, subst}
use mathlib.Core.List.{List, [], ◌∷◌}
use Prim.Native.Nat.{ℕ, ◌+◌, ◌<◌}
use native.Mathlib.Omega.{arith}
use lib.ListN.{length, get_or, set, take, drop, length-take, length-drop}
use lib.Seq.{get_or-take, get_or-drop}
use Rattle.bits.specs.Counted.{listed}
use Rattle.vectors.specs.Row.{Row, row, WellFormed}
use Rattle.vectors.specs.Best.{best}
use Rattle.vectors.proofs.ListParts.{listed-map, listed-from, listed-ext}
use Rattle.operations.specs.Memory.{load_number}
use Rattle.operations.specs.Record.{width_at}
use Rattle.checks.specs.Table.{State, row_at}
use Rattle.steps.specs.Step.{result, step}
use Rattle.steps.specs.States.{StateFits}
use Rattle.lookups.specs.Lookup.{cell_rows, LoadReady}
use Rattle.memories.specs.Effects.{load_effect, SpanFits}

module _ (widths : List ℕ) (s : State) (S : StateFits widths s) (t a base n : ℕ) (L : SpanFits widths a t base n) where
  abbrev part : List ℕ → List ℕ
  part l = take n (drop base l)

  part_at : (l : List ℕ) (i : ℕ) → i < n → get_or (part l) i 0 ≡ get_or l (base + i) 0
  part_at l i h = get_or-take n (drop base l) i 0 h ∙ get_or-drop base l i 0

  part_length : (l : List ℕ) → length l ≡ length widths → length (part l) ≡ n
  part_length l e = let h = L.span_in in simp (length-take, length-drop) (omega arith)

  abbrev cell : ℕ → Row
  cell i = row (width_at widths t) (get_or (part s.masks) i 0) (get_or (part s.values) i 0)

  row_is : (i : ℕ) → i < n → row_at widths s (base + i) ≡ cell i
  row_is i h =
      λ ι. row (L.cell_width i h ι) (sym (part_at s.masks i h) ι) (sym (part_at s.values i h) ι)

  pub part-ready : LoadReady (width_at widths t) (row_at widths s a) (part s.masks) (part s.values)
  part-ready =
      record {
        address = S.formed a L.address_in;
        one_length = part_length s.values S.values_length ∙ sym (part_length s.masks S.masks_length);
        formed = λ i h.
            let e = part_length s.masks S.masks_length in
            let l = L.span_in in
            subst WellFormed (row_is i (omega arith)) (S.formed (base + i) (omega arith));
      }

  -- what the function gives over the part is the result of the load's effect
  pub part-result : best (width_at widths t) load_number (row_at widths s a ∷ cell_rows (width_at widths t) (part s.masks) (part s.values)) ≡ result widths s (load_effect t a base n)
  part-result =
      let e = part_length s.masks S.masks_length in
      ap (λ (l : List Row). best (width_at widths t) load_number (row_at widths s a ∷ l))
      (ap (listed cell 0) e
      ∙ sym (listed-map (row_at widths s) (λ i. i) base n ∙ sym (listed-from (row_at widths s) base n) ∙ listed-ext (λ i. row_at widths s (base + i)) cell 0 n (λ i l u. row_is i (omega arith))))

  -- ---- the same with the code's number of cells

  module _ (k : ℕ) (ek : k ≡ n) where
    abbrev cut : List ℕ → List ℕ
    cut l = take k (drop base l)

    pub code-ready : LoadReady (width_at widths t) (row_at widths s a) (cut s.masks) (cut s.values)
    code-ready = rw ek part-ready

    pub code_step : (m v : ℕ) → row (width_at widths t) m v ≡ best (width_at widths t) load_number (row_at widths s a ∷ cell_rows (width_at widths t) (cut s.masks) (cut s.values))
        → ◌≡◌ {A = State} (record { masks = set s.masks t m; values = set s.values t v }) (step widths (load_effect t a base n ∷ []) s)
    unfolding step
    code_step m v e =
        let r = e
        ∙ (λ ι. best (width_at widths t) load_number (row_at widths s a ∷ cell_rows (width_at widths t) (take (ek ι) (drop base s.masks)) (take (ek ι) (drop base s.values))))
        ∙ part-result in
        λ ι. record { masks = set s.masks t (r ι).mask; values = set s.values t (r ι).value }
