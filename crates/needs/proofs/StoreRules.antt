-- The request's words for a store and the rule over effects are the same: a cell reads the address, the data and itself. Assumes nothing.
use mathlib.Core.Path.{◌≡◌, sym, ap, ap₂, ◌∙◌, subst}
use mathlib.Core.Bool.{Bool, true, false, not, ◌&&◌, ◌||◌}
use mathlib.Core.Logic.{inl, inr}
use mathlib.Core.List.{List, [], ◌∷◌}
use Prim.Native.Nat.{ℕ, ◌+◌}
use lib.Dec.{T, eqb, eqb→eq}
use Rattle.bits.specs.Counted.{listed}
use Rattle.bits.proofs.Bools.{T_and, T-left, T-right, T-inl, T-inr, T-or, T-cases, when_false}
use Rattle.vectors.specs.Lists.{some_of}
use Rattle.vectors.proofs.Lists.{some_of-mapped, some-any, some-imp}
use Rattle.vectors.proofs.ListParts.{listed-map, listed-from}
use Rattle.operations.specs.Kind.{is_row, Kind}
use Rattle.operations.specs.Kinds.{kind_of}
use Rattle.operations.specs.Memory.{span, op_store}
use Rattle.operations.specs.Record.{kind_word, target_word, first_word, second_word, parameter_word, sixth_word, kind_in, operands, rows_named, target_rows, named_twice, once, Part, whole_part, cell_part, parts_of, Effect, effect_of, effects_of}
use Rattle.operations.proofs.SmtBits.{T-ext}
use Rattle.tables.proofs.Fits.{effect-targets}
use Rattle.needs.specs.Needs.{among, stays, ceasing, becoming, need_before}
use Rattle.needs.specs.Effects.{read_by, need_by}

-- a test of the rows that a record writes is one of its effects' targets
pub targets-same : (p : ℕ → Bool) (widths words : List ℕ) → some_of p (target_rows words) ≡ some_of (λ e. p e.target) (effects_of widths words)
targets-same p widths words = ap (some_of p) (sym (effect-targets widths words)) ∙ some_of-mapped p (λ (e : Effect). e.target) (effects_of widths words)

pub only_one : (b : Bool) → T (b || false) → T b
only_one true t = tt
only_one false t = t

-- of address a and data b: cell k is needed, and row i is the address, the data or that cell
abbrev reads_cell : ℕ → ℕ → ℕ → (ℕ → Bool) → ℕ → Bool
reads_cell a b i need k = need k && among i (a ∷ b ∷ k ∷ [])

module _ (a b i : ℕ) (need : ℕ → Bool) (cells : List ℕ) where
  abbrev reads : ℕ → Bool
  reads = reads_cell a b i need

  cells-need : T (some_of need cells) → (among i (a ∷ b ∷ []) || (need i && not (among i []))) ≡ (some_of reads cells || (need i && not (among i cells)))
  unfolding some_of
  cells-need s = T-ext (among i (a ∷ b ∷ []) || (need i && not (among i []))) (some_of reads cells || (need i && not (among i cells))) there back
    where
      with_cell : (k : ℕ) → T (eqb a i || (eqb b i || false)) → T (eqb a i || (eqb b i || (eqb k i || false)))
      with_cell k t = elim (T-or (eqb a i) (eqb b i || false) t) [
        | inl u ↦ T-inl (eqb a i) (eqb b i || (eqb k i || false)) u
        | inr u ↦ T-inr (eqb a i) (eqb b i || (eqb k i || false)) (T-inl (eqb b i) (eqb k i || false) (only_one (eqb b i) u))
      ]

      own-cell : (k : ℕ) → T (eqb k i) → T (eqb a i || (eqb b i || (eqb k i || false)))
      own-cell k t = T-inr (eqb a i) (eqb b i || (eqb k i || false)) (T-inr (eqb b i) (eqb k i || false) (T-inl (eqb k i) false t))

      there : T (among i (a ∷ b ∷ []) || (need i && not (among i []))) → T (some_of reads cells || (need i && not (among i cells)))
      there t = elim (T-or (among i (a ∷ b ∷ [])) (need i && not (among i [])) t) [
        | inl u ↦ T-inl (some_of reads cells) (need i && not (among i cells)) (some-imp need reads cells (λ k n. T_and (need k) (among i (a ∷ b ∷ k ∷ [])) n (with_cell k u)) s)
        | inr u ↦
            let n = T-left (need i) (not (among i [])) u in
            T-cases (among i cells)
            (λ m. T-inl (some_of reads cells) (need i && not (among i cells))
            (some-imp (λ k. eqb k i) reads cells (λ k e. T_and (need k) (among i (a ∷ b ∷ k ∷ [])) (subst (λ (j : ℕ). T (need j)) (sym (eqb→eq k i e)) n) (own-cell k e)) m))
            (λ m. T-inr (some_of reads cells) (need i && not (among i cells)) (T_and (need i) (not (among i cells)) n m))
      ]

      read_back : (k : ℕ) → T (reads k) → T (among i (a ∷ b ∷ []) || (need i && not (among i [])))
      read_back k t = elim (T-or (eqb a i) (eqb b i || (eqb k i || false)) (T-right (need k) (among i (a ∷ b ∷ k ∷ [])) t)) [
        | inl u ↦ T-inl (among i (a ∷ b ∷ [])) (need i && not (among i [])) (T-inl (eqb a i) (eqb b i || false) u)
        | inr u ↦ elim (T-or (eqb b i) (eqb k i || false) u) [
          | inl v ↦ T-inl (among i (a ∷ b ∷ [])) (need i && not (among i [])) (T-inr (eqb a i) (eqb b i || false) (T-inl (eqb b i) false v))
          | inr v ↦ T-inr (among i (a ∷ b ∷ [])) (need i && not (among i []))
              (T_and (need i) (not (among i [])) (subst (λ (j : ℕ). T (need j)) (eqb→eq k i (only_one (eqb k i) v)) (T-left (need k) (among i (a ∷ b ∷ k ∷ [])) t)) tt)
        ]
      ]

      back : T (some_of reads cells || (need i && not (among i cells))) → T (among i (a ∷ b ∷ []) || (need i && not (among i [])))
      back t = elim (T-or (some_of reads cells) (need i && not (among i cells)) t) [
        | inl u ↦ some-any reads cells read_back u
        | inr u ↦ T-inr (among i (a ∷ b ∷ [])) (need i && not (among i [])) (T_and (need i) (not (among i [])) (T-left (need i) (not (among i cells)) u) tt)
      ]

module _ (widths words : List ℕ) (e : kind_word words ≡ 25) (need : ℕ → Bool) (i : ℕ) where
  abbrev base : ℕ
  base = sixth_word words

  abbrev count : ℕ
  count = parameter_word words

  store-kind : kind_in words ≡ op_store
  unfolding kind_of
  store-kind = ap kind_of e

  no_target : T (not (is_row (kind_in words).use_t))
  unfolding op_store
  no_target = subst (λ (k : Kind). T (not (is_row k.use_t))) (sym store-kind) tt

  never-twice : named_twice words ≡ false
  unfolding named_twice op_store
  never-twice = ap (λ (k : Kind). k.correlated && eqb (first_word words) (second_word words)) store-kind

  store-rows : target_rows words ≡ span base count
  unfolding target_rows
  store-rows = when_false (is_row (kind_in words).use_t) (target_word words ∷ []) (span base count) no_target

  -- a test of the parts is one of the cells
  cells-read : some_of (λ q. need q.target && among i (once (named_twice words) q.operands)) (parts_of words) ≡ some_of (reads_cell (first_word words) (second_word words) i need) (span base count)
  unfolding parts_of op_store
  cells-read =
      let f = reads_cell (first_word words) (second_word words) i need in
      let g : Part → Bool = λ q. need q.target && among i (once (named_twice words) q.operands) in
      let at : (j : ℕ) → g (cell_part words j) ≡ f (base + j) = (λ j ι. need (base + j) && among i (once (never-twice ι) (operands (store-kind ι) (first_word words) (second_word words) ((base + j) ∷ [])))) in
      ap (some_of g) (when_false (is_row (kind_in words).use_t) (whole_part words ∷ []) (listed (cell_part words) 0 count) no_target)
      ∙ ap (some_of g) (sym (listed-map (cell_part words) (λ j. j) 0 count))
      ∙ some_of-mapped g (cell_part words) (span 0 count)
      ∙ (λ ι. some_of (λ j. at j ι) (span 0 count))
      ∙ sym (some_of-mapped f (λ j. base + j) (span 0 count))
      ∙ ap (some_of f) (listed-map (λ j. base + j) (λ j. j) 0 count ∙ listed-from (λ j. j) base count)

  store-reads : read_by (effects_of widths words) need i ≡ some_of (reads_cell (first_word words) (second_word words) i need) (span base count)
  unfolding effects_of effect_of
  store-reads = some_of-mapped (λ e. need e.target && among i e.operands) (effect_of widths words) (parts_of words) ∙ cells-read

  pub store-need : T (stays words need) → need_before words need i ≡ need_by (effects_of widths words) need i
  unfolding stays need_before need_by ceasing becoming
  store-need s =
      ap₂ (λ (x y : List ℕ). among i x || (need i && not (among i y)))
      (when_false (is_row (kind_in words).use_t) (rows_named words) (first_word words ∷ second_word words ∷ []) no_target)
      (when_false (is_row (kind_in words).use_t) (target_word words ∷ []) [] no_target)
      ∙ cells-need (first_word words) (second_word words) i need (span base count) (subst (λ (l : List ℕ). T (some_of need l)) store-rows s)
      ∙ ap₂ (λ (x y : Bool). x || (need i && not y)) (sym store-reads) (ap (among i) (sym store-rows) ∙ targets-same (λ j. eqb j i) widths words)
