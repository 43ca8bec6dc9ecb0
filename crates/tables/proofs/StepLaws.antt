-- The step of a record without cells as the code makes it: the rows that its words name, the kernel's result, and the one row written. Assumes nothing.
use mathlib.Core.Path.{◌≡◌, refl, sym, ap, ◌∙◌, subst, subst₂}
use mathlib.Core.Bool.{Bool, not}
use mathlib.Core.List.{List, [], ◌∷◌, map, map-map}
use Prim.Native.Nat.{ℕ, ◌≤◌, ◌<◌}
use native.Mathlib.Omega.{arith}
use lib.Dec.{T, eqb, eqb→eq}
use lib.ListN.{length, get_or, set}
use Rattle.bits.proofs.Bools.{T-left, T-right}
use Rattle.vectors.specs.Lists.{All}
use Rattle.vectors.specs.Row.{Row, row, WellFormed}
use Rattle.vectors.proofs.Lists.{all_map}
use Rattle.operations.specs.Kind.{asks, Use, is_row, is_base}
use Rattle.operations.specs.Kinds.{is_kind, kind_of}
use Rattle.operations.specs.declared.Record.{Record}
use Rattle.operations.specs.Record.{words_of, width_at, used, used_last, operands, rows_named, named_twice, whole_part, Effect, effect_of, effects_of}
use Rattle.operations.specs.Result.{widths_of, result_once, Ready}
use Rattle.operations.proofs.Sound.{first-is-row, second-is-row}
use Rattle.operations.proofs.Parts.{target_row, rows-one, one-target, one-fits}
use Rattle.bits.specs.Limits.{width_limit}
use Rattle.checks.specs.Table.{State, row_at}
use Rattle.steps.specs.Step.{result, step}
use Rattle.tables.specs.Encoding.{used_row, StepReady}
use Rattle.tables.proofs.Lists.{operands-count}
use Rattle.tables.proofs.NamedRows.{record-result, one_bit, used-in, last-in, used-map, last-map, used-same}
use Rattle.tables.proofs.Fits.{one-effect}

-- what the code reads for a record: the rows t, a, b and c (0 where b or c is no row), and the widths of the first three
pub record Loaded (widths : List ℕ) (r : Record) (i j k l wt wa wb : ℕ) : Type 0 where
  pub target : i ≡ r.t
  pub first : j ≡ r.a
  pub second : k ≡ used_row (kind_of r.kind).use_b r.b
  pub condition : l ≡ used_row (kind_of r.kind).use_c r.c
  pub target_width : wt ≡ width_at widths i
  pub first_width : wa ≡ width_at widths j
  pub second_width : wb ≡ width_at widths k

pub record Present (widths : List ℕ) (s : State) (i j k l : ℕ) : Type 0 where
  pub masks : length s.masks ≡ length widths
  pub values : length s.values ≡ length widths
  pub target : i < length widths
  pub first : j < length widths
  pub second : k < length widths
  pub condition : l < length widths

module _ (widths : List ℕ) (s : State) (r : Record) (R : StepReady widths s (words_of r)) (none : T (not (is_base (kind_of r.kind).use_c))) where
  abbrev ib : ℕ
  ib = used_row (kind_of r.kind).use_b r.b

  abbrev ic : ℕ
  ic = used_row (kind_of r.kind).use_c r.c

  pub kind-in : T (is_kind r.kind)
  kind-in = R.passed.kind_known

  -- the rows that the words name: the sixth word is one of them or none
  rows : rows_named (words_of r) ≡ operands (kind_of r.kind) r.a r.b (r.c ∷ [])
  rows = rows-one (words_of r) kind-in none

  first_part_lem : (used_row (kind_of r.kind).use_a r.a < length widths)
      × All (λ i. i < length widths) (used (kind_of r.kind).use_b r.b (used_last (kind_of r.kind).use_c (r.c ∷ [])))
  first_part_lem = used-in (kind_of r.kind).use_a (length widths) r.a _ R.some_row (subst (All (λ i. i < length widths)) rows R.passed.operands_in)

  second-part : (ib < length widths) × All (λ i. i < length widths) (used_last (kind_of r.kind).use_c (r.c ∷ []))
  second-part = used-in (kind_of r.kind).use_b (length widths) r.b _ R.some_row first_part_lem.1

  -- its one row
  is-row : T (is_row (kind_of r.kind).use_t)
  is-row = target_row (words_of r) kind-in none

  pub target_in : r.t < length widths
  target_in = (subst (All (λ i. i < length widths)) (one-target (words_of r) is-row) R.passed.targets_in).0

  pub first_in : r.a < length widths
  first_in = subst (λ (u : Use). used_row u r.a < length widths) (first-is-row r.kind kind-in) first_part_lem.0

  pub second_in : ib < length widths
  second_in = second-part.0

  pub condition-in : ic < length widths
  condition-in = last-in (kind_of r.kind).use_c (length widths) r.c R.some_row second-part.1

  abbrev mask : ℕ → ℕ
  mask i = get_or s.masks i 0

  abbrev value : ℕ → ℕ
  value i = get_or s.values i 0

  -- the rows that the kernel is given
  abbrev pub given : List Row
  given = operands (kind_of r.kind) (row_at widths s r.a) (row_at widths s ib) (row 1 (mask ic) (value ic) ∷ [])

  rows_are : given ≡ map (row_at widths s) (rows_named (words_of r))
  rows_are =
      used-map (row_at widths s) (kind_of r.kind).use_a r.a (row_at widths s r.a) _ (used (kind_of r.kind).use_b r.b (used_last (kind_of r.kind).use_c (r.c ∷ [])))
      (λ u. refl)
      (used-map (row_at widths s) (kind_of r.kind).use_b r.b (row_at widths s ib) _ (used_last (kind_of r.kind).use_c (r.c ∷ []))
      (λ u. ap (row_at widths s) (used-same (kind_of r.kind).use_b r.b u))
      (last-map (row_at widths s) (kind_of r.kind).use_c none r.c (row 1 (mask ic) (value ic)) condition))
      ∙ ap (map (row_at widths s)) (sym rows)
    where
      condition : T (is_row (kind_of r.kind).use_c) → row 1 (mask ic) (value ic) ≡ row_at widths s r.c
      condition u =
          let e = sym (one_bit r.kind kind-in u widths (width_at widths r.t) r.a r.b r.p r.c (subst T (one-fits widths (words_of r) kind-in none) R.passed.widths_are_fit)) in
          let f = used-same (kind_of r.kind).use_c r.c u in
          λ ι. row (e ι) (mask (f ι)) (value (f ι))

  widths_are : widths_of (map (row_at widths s) (rows_named (words_of r))) ≡ map (width_at widths) (rows_named (words_of r))
  widths_are = map-map (λ (q : Row). q.width) (row_at widths s) (rows_named (words_of r))

  pub ready : Ready (kind_of r.kind) (width_at widths r.t) r.p given
  ready = subst (Ready (kind_of r.kind) (width_at widths r.t) r.p) (sym rows_are) named
    where
      named : Ready (kind_of r.kind) (width_at widths r.t) r.p (map (row_at widths s) (rows_named (words_of r)))
      named =
          record {
            count = ap (λ (l : List ℕ). length (map (row_at widths s) l)) rows ∙ operands-count (row_at widths s) (kind_of r.kind) r.a r.b r.c;
            formed = all_map WellFormed (row_at widths s) R.fits.formed (rows_named (words_of r)) R.passed.operands_in;
            wide = (R.wide r.t target_in).0;
            widths = all_map (λ (q : Row). 1 ≤ q.width) (row_at widths s) (λ i h. (R.wide i h).0) (rows_named (words_of r)) R.passed.operands_in;
            fits = subst (λ (l : List ℕ). T (asks (kind_of r.kind).rule (width_at widths r.t) l r.p)) (ap (map (width_at widths)) (sym rows) ∙ sym widths_are)
                (subst T (one-fits widths (words_of r) kind-in none) R.passed.widths_are_fit);
            parameter = R.passed.parameter_used;
          }

  pub target-wide : width_at widths r.t ≤ width_limit
  target-wide = (R.wide r.t target_in).1

  pub first-wide : width_at widths r.a ≤ width_limit
  first-wide = (R.wide r.a first_in).1

  abbrev named : Bool
  named = named_twice (words_of r)

  result-is : result_once named (kind_of r.kind) (width_at widths r.t) r.p given ≡ result widths s (effect_of widths (words_of r) (whole_part (words_of r)))
  result-is = ap (result_once named (kind_of r.kind) (width_at widths r.t) r.p) rows_are ∙ sym (record-result widths (words_of r) s)

  -- where the words a and b name one row, so do those that the code reads
  one-row : T named → r.a ≡ ib
  unfolding named_twice
  one-row t =
      let k = kind_of r.kind in
      let u = second-is-row r.kind kind-in (T-left k.correlated (eqb r.a r.b) t) in
      eqb→eq r.a r.b (T-right k.correlated (eqb r.a r.b) t) ∙ ap (λ (v : Use). used_row v r.b) (sym u)

  -- the two planes written are the step
  pub step_is : (m v : ℕ) → row (width_at widths r.t) m v ≡ result_once named (kind_of r.kind) (width_at widths r.t) r.p given
      → ◌≡◌ {A = State} (record { masks = set s.masks r.t m; values = set s.values r.t v }) (step widths (effects_of widths (words_of r)) s)
  unfolding step effect_of
  step_is m v e =
      let q = e ∙ result-is in
      (λ ι. record { masks = set s.masks r.t (q ι).mask; values = set s.values r.t (q ι).value })
      ∙ ap (λ (es : List Effect). step widths es s) (sym (one-effect widths (words_of r) is-row))

  -- ---- the same under the code's names for these numbers

  module _ {i j k l wt wa wb : ℕ} (H : Loaded widths r i j k l wt wa wb) where
    target_width : wt ≡ width_at widths r.t
    target_width = H.target_width ∙ ap (width_at widths) H.target

    first_width : wa ≡ width_at widths r.a
    first_width = H.first_width ∙ ap (width_at widths) H.first

    -- the rows are there, in both planes
    pub present : Present widths s i j k l
    present =
        record {
          masks = R.fits.masks_length;
          values = R.fits.values_length;
          target = let h = target_in in let e = H.target in omega arith;
          first = let h = first_in in let e = H.first in omega arith;
          second = let h = second_in in let e = H.second in omega arith;
          condition = let h = condition-in in let e = H.condition in omega arith;
        }

    abbrev handed : List Row
    handed = operands (kind_of r.kind) (row wa (mask j) (value j)) (row wb (mask k) (value k)) (row 1 (mask l) (value l) ∷ [])

    first-given : row wa (mask j) (value j) ≡ row_at widths s r.a
    first-given = λ ι. row (first_width ι) (mask (H.first ι)) (value (H.first ι))

    second-given : row wb (mask k) (value k) ≡ row_at widths s ib
    second-given = let w = H.second_width ∙ ap (width_at widths) H.second in λ ι. row (w ι) (mask (H.second ι)) (value (H.second ι))

    handed-given : handed ≡ given
    handed-given = λ ι. operands (kind_of r.kind) (first-given ι) (second-given ι) (row 1 (mask (H.condition ι)) (value (H.condition ι)) ∷ [])

    pub code_same : T named → row wa (mask j) (value j) ≡ row wb (mask k) (value k)
    code_same t = first-given ∙ ap (row_at widths s) (one-row t) ∙ sym second-given

    pub code-ready : T (is_kind r.kind) × T (not (is_base (kind_of r.kind).use_c)) × (wt ≤ width_limit) × (wa ≤ width_limit) × Ready (kind_of r.kind) wt r.p handed
    code-ready = (
      kind-in,
      none,
      subst (λ (x : ℕ). x ≤ width_limit) (sym target_width) target-wide,
      subst (λ (x : ℕ). x ≤ width_limit) (sym first_width) first-wide,
      subst₂ (λ (x : ℕ) (rows : List Row). Ready (kind_of r.kind) x r.p rows) (sym target_width) (sym handed-given) ready,
    )

    pub code_step : (m v : ℕ) → row wt m v ≡ result_once named (kind_of r.kind) wt r.p handed
        → ◌≡◌ {A = State} (record { masks = set s.masks i m; values = set s.values i v }) (step widths (effects_of widths (words_of r)) s)
    code_step m v e =
        (λ ι. record { masks = set s.masks (H.target ι) m; values = set s.values (H.target ι) v })
        ∙ step_is m v ((λ ι. row (sym target_width ι) m v) ∙ e ∙ (λ ι. result_once named (kind_of r.kind) (target_width ι) r.p (handed-given ι)))
