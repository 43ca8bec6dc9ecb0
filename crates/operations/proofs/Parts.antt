-- A record's parts: their targets are the rows that the record writes, each once, and their rows are those that its words name. Assumes nothing.
use mathlib.Core.Path.{◌≡◌, refl, sym, ap, ◌∙◌, subst}
use mathlib.Core.Logic.{◌≢◌}
use mathlib.Core.Bool.{Bool, true, false, not, cond}
use mathlib.Core.List.{List, [], ◌∷◌, map}
use Prim.Native.Nat.{ℕ, zero, suc, ◌+◌}
use native.Mathlib.Omega.{arith}
use lib.Dec.{T}
use Rattle.bits.specs.Counted.{listed}
use Rattle.bits.proofs.Bools.{and-true, when_true, when_false}
use Rattle.vectors.specs.Lists.{All, Distinct, all_of}
use Rattle.vectors.proofs.ListParts.{listed-all, all_listed, listed-map, listed-from}
use Rattle.operations.specs.Kind.{asks, Use, as_row, as_number, as_count, as_base, unused, is_row, is_base, Kind}
use Rattle.operations.specs.Kinds.{is_kind}
use Rattle.operations.specs.Memory.{span}
use Rattle.operations.specs.Record.{kind_word, kind_in, target_word, first_word, second_word, parameter_word, sixth_word, used, used_last, operands, sixth_rows, rows_named, target_rows, named_twice, Part, whole_part, cell_part, parts_of, width_at}
use Rattle.operations.specs.Faults.{part_fits, widths_fit}
use Rattle.operations.proofs.Sound.{target-is-row, cells-written}
use Rattle.operations.proofs.Twice.{starts_twice, named-starts}

-- ---- spans

pub span-distinct : (base n : ℕ) → Distinct (span base n)
unfolding listed
span-distinct base zero = tt
span-distinct base (suc n) = (listed-all (λ i. i ≢ base) (λ i. i) (suc base) n (λ i l u e. omega arith), span-distinct (suc base) n)

-- ---- the operand rows

module _ {A : Type 0} (P : A → Type 0) where
  used_all : (u : Use) (a : A) (l m : List A) → (All P l → All P m) → All P (used u a l) → All P (used u a m)
  used_all as_row a l m f q = (q.0, f q.1)
  used_all as_number a l m f q = f q
  used_all as_count a l m f q = f q
  used_all as_base a l m f q = f q
  used_all unused a l m f q = f q

  used-rest : (u : Use) (a : A) (l : List A) → All P (used u a l) → All P l
  used-rest as_row a l q = q.1
  used-rest as_number a l q = q
  used-rest as_count a l q = q
  used-rest as_base a l q = q
  used-rest unused a l q = q

  last-all : (u : Use) (cs : List A) → All P cs → All P (used_last u cs)
  last-all as_row cs q = q
  last-all as_number cs q = tt
  last-all as_count cs q = tt
  last-all as_base cs q = q
  last-all unused cs q = tt

  -- with other rows for the sixth word
  pub operands-all : (k : Kind) (a b : A) (cs ds : List A) → All P ds → All P (operands k a b cs) → All P (operands k a b ds)
  operands-all k a b cs ds q =
      used_all k.use_a a _ _ (used_all k.use_b b _ _ (λ e. last-all k.use_c ds q))

-- ---- the parts

module _ (words : List ℕ) where
  abbrev base : ℕ
  base = sixth_word words

  abbrev count : ℕ
  count = parameter_word words

  pub one-part : T (is_row (kind_in words).use_t) → parts_of words ≡ whole_part words ∷ []
  unfolding parts_of
  one-part = when_true (is_row (kind_in words).use_t) (whole_part words ∷ []) (listed (cell_part words) 0 count)

  pub one-target : T (is_row (kind_in words).use_t) → target_rows words ≡ target_word words ∷ []
  unfolding target_rows
  one-target = when_true (is_row (kind_in words).use_t) (target_word words ∷ []) (span base count)

  pub part-targets : map (λ q. q.target) (parts_of words) ≡ target_rows words
  unfolding parts_of target_rows
  part-targets = go (is_row (kind_in words).use_t)
    where
      go : (b : Bool) → map (λ q. q.target) (cond b (whole_part words ∷ []) (listed (cell_part words) 0 count)) ≡ cond b (target_word words ∷ []) (span base count)
      go true = refl
      go false = listed-map (λ (q : Part). q.target) (cell_part words) 0 count ∙ listed-from (λ i. i) base count

  -- "each once"
  pub targets-distinct : Distinct (target_rows words)
  unfolding target_rows
  targets-distinct = go (is_row (kind_in words).use_t)
    where
      go : (b : Bool) → Distinct (cond b (target_word words ∷ []) (span base count))
      go true = (tt, tt)
      go false = span-distinct base count

  -- what holds of the rows that are written and of those that are named holds of the rows of each part
  pub parts_all : (P : ℕ → Type 0) → All P (target_rows words) → All P (rows_named words) → All (λ q. P q.target × All P q.operands) (parts_of words)
  unfolding parts_of target_rows rows_named
  parts_all P = go (is_row (kind_in words).use_t)
    where
      go : (b : Bool) → All P (cond b (target_word words ∷ []) (span base count)) → All P (rows_named words)
          → All (λ q. P q.target × All P q.operands) (cond b (whole_part words ∷ []) (listed (cell_part words) 0 count))
      go true t r = ((t.0, r), tt)
      go false t r =
          listed-all (λ q. P q.target × All P q.operands) (cell_part words) 0 count
          (λ i l u.
          let c = all_listed P (λ j. j) base count t (base + i) (omega arith) (omega arith) in
          (c, operands-all P (kind_in words) (first_word words) (second_word words) _ ((base + i) ∷ []) (c, tt) r))

  -- the same of the operand rows alone: the cells of a store are among the rows that it names
  pub parts-operands : T (is_kind (kind_word words)) → (P : ℕ → Type 0) → All P (rows_named words) → All (λ q. All P q.operands) (parts_of words)
  unfolding parts_of rows_named
  parts-operands h P r = go (is_row (kind_in words).use_t) (cells-written (kind_word words) h)
    where
      cells : T (is_base (kind_in words).use_c) → All P (span base count)
      cells z = span_of (kind_in words).use_c z (used-rest P (kind_in words).use_b (second_word words) _ (used-rest P (kind_in words).use_a (first_word words) _ r))
        where
          span_of : (u : Use) → T (is_base u) → All P (used_last u (sixth_rows u base count)) → All P (span base count)
          span_of as_row z e = absurd z
          span_of as_number z e = absurd z
          span_of as_count z e = absurd z
          span_of as_base z e = e
          span_of unused z e = absurd z

      go : (b : Bool) → (T (not b) → T (is_base (kind_in words).use_c)) → All (λ q. All P q.operands) (cond b (whole_part words ∷ []) (listed (cell_part words) 0 count))
      go true z = (r, tt)
      go false z =
          listed-all (λ q. All P q.operands) (cell_part words) 0 count
          (λ i l u. operands-all P (kind_in words) (first_word words) (second_word words) _ ((base + i) ∷ [])
          (all_listed P (λ j. j) base count (cells (z tt)) (base + i) (omega arith) (omega arith), tt) r)

  pub parts-start : T (is_kind (kind_word words)) → T (named_twice words) → All (λ q. T (starts_twice q.operands)) (parts_of words)
  unfolding parts_of rows_named
  parts-start h t = go (is_row (kind_in words).use_t)
    where
      go : (b : Bool) → All (λ q. T (starts_twice q.operands)) (cond b (whole_part words ∷ []) (listed (cell_part words) 0 count))
      go true = (named-starts words h t _, tt)
      go false = listed-all (λ q. T (starts_twice q.operands)) (cell_part words) 0 count (λ i l u. named-starts words h t ((base + i) ∷ []))

-- ---- a kind without cells

module _ (words : List ℕ) (h : T (is_kind (kind_word words))) (none : T (not (is_base (kind_in words).use_c))) where
  pub target_row : T (is_row (kind_in words).use_t)
  target_row = subst (λ (u : Use). T (is_row u)) (sym (target-is-row (kind_word words) h none)) tt

  pub rows-one : rows_named words ≡ operands (kind_in words) (first_word words) (second_word words) (sixth_word words ∷ [])
  unfolding rows_named
  rows-one =
      ap (operands (kind_in words) (first_word words) (second_word words))
      (when_false (is_base (kind_in words).use_c) (span (sixth_word words) (parameter_word words)) (sixth_word words ∷ []) none)

-- check 9 of a record that writes one row
pub one-fits : (widths words : List ℕ) → T (is_kind (kind_word words)) → T (not (is_base (kind_in words).use_c))
    → widths_fit widths words ≡ asks (kind_in words).rule (width_at widths (target_word words))
    (map (width_at widths) (operands (kind_in words) (first_word words) (second_word words) (sixth_word words ∷ []))) (parameter_word words)
unfolding all_of
one-fits widths words h none =
    ap (all_of (part_fits widths words)) (one-part words (target_row words h none))
    ∙ and-true (part_fits widths words (whole_part words))
    ∙ ap (λ (l : List ℕ). asks (kind_in words).rule (width_at widths (target_word words)) (map (width_at widths) l) (parameter_word words)) (rows-one words h none)
