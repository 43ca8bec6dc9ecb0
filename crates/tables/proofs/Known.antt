-- Fully known operand rows give the SMT-LIB number, and the plain run's, at every point of an accepted run. Assumes nothing.
use mathlib.Core.Path.{◌≡◌, refl, sym, ap, ◌∙◌, subst, subst₂}
use mathlib.Core.Bool.{not}
use mathlib.Core.List.Memᴰ
use mathlib.Core.List.{List, map, map-map}
use Prim.Native.Nat.{ℕ, suc, ◌-◌, ◌^◌, ◌≤◌, ◌<◌}
use native.Mathlib.Nat.{add-sub_of_le, add-zero}
use native.Mathlib.Omega.{arith}
use lib.Dec.{T}
use lib.ListN.{length, get_or}
use Rattle.vectors.specs.Lists.{All}
use Rattle.vectors.specs.Row.{Row, row}
use Rattle.vectors.proofs.Lists.{all_map, all_both, pointwise-map}
use Rattle.vectors.proofs.BestLaws.{best-known}
use Rattle.operations.specs.Kind.{asks, is_row, is_base, Kind}
use Rattle.operations.specs.Kinds.{kind_of}
use Rattle.operations.specs.Record.{kind_word, target_word, first_word, second_word, parameter_word, sixth_word, kind_in, width_at, rows_named, target_rows, named_twice, whole_part, parts_of, Effect, effect_of, effects_of}
use Rattle.operations.specs.Faults.{misused}
use Rattle.operations.specs.Result.{Below, arity}
use Rattle.operations.specs.Terms.{Term, narrow_terms, Served}
use Rattle.operations.proofs.Twice.{once-all}
use Rattle.operations.proofs.Parts.{parts-operands, target_row, rows-one, one-target, one-fits}
use Rattle.operations.proofs.SmtTerms.{term-agrees, term-kind, term_of}
use Rattle.checks.specs.Table.{State, row_at, Table, start_of, record_count, record_of}
use Rattle.checks.specs.Accepted.{RecordPassed, TablePassed, Accepted}
use Rattle.steps.specs.Step.{operand_rows, operand_numbers, result, step, plain_step, after, plain_after}
use Rattle.tables.specs.Run.{program_of, point_rows, plain_run}
use Rattle.steps.specs.States.{StateFits}
use Rattle.tables.specs.Known.{KnownBefore, operand_widths, TermFor, smt_vector, known_row, SmtNumber, PlainNumbers, Demand2}
use Rattle.tables.proofs.Lists.{operands-count}
use Rattle.tables.proofs.Fits.{Fit, FitRecord, effect-targets, effects-fit, one-effect, plain-number}
use Rattle.tables.proofs.Steps.{operands-formed, step-targets, plain-targets}
use Rattle.tables.proofs.Points.{after-fits}
use Rattle.tables.proofs.Demand3.{start_fits, at-point}

-- ---- the effects of a record

-- of an effect on fully known operand rows its best result is its value on their numbers, with an empty mask
known-result : (widths : List ℕ) (s : State) → StateFits widths s → (e : Effect) → Fit widths e → All (λ i. get_or s.masks i 0 ≡ 0) e.operands
    → result widths s e ≡ row (width_at widths e.target) 0 (e.value (operand_numbers s.values e))
known-result widths s S e F K =
    best-known (width_at widths e.target) e.value (operand_rows widths s e) (operands-formed widths s S e F)
    (all_map (λ r. r.mask ≡ 0) (row_at widths s) (λ i z. z) e.operands K)
    (subst (λ (l : List ℕ). e.value l < 2 ^ width_at widths e.target) (sym values)
    (F.value_below (operand_numbers s.values e)
    (pointwise-map (λ w n. n < 2 ^ w) (width_at widths) (λ i. get_or s.values i 0) (λ i l. (S.formed i l).value_below) e.operands F.operands_in)))
    ∙ ap (λ (l : List ℕ). row (width_at widths e.target) 0 (e.value l)) values
  where
    values : map (λ r. r.value) (operand_rows widths s e) ≡ operand_numbers s.values e
    values = map-map (λ (r : Row). r.value) (row_at widths s) e.operands

-- so each row written is the plain step's number
known-effects : (widths : List ℕ) (s : State) → StateFits widths s → (es : List Effect) → FitRecord widths es → All (λ e. All (λ i. get_or s.masks i 0 ≡ 0) e.operands) es
    → All (λ e. row_at widths (step widths es s) e.target ≡ row (width_at widths e.target) 0 (get_or (plain_step es s.values) e.target 0)) es
known-effects widths s S es R K =
    all_both (λ e (r : result widths s e ≡ row (width_at widths e.target) 0 (e.value (operand_numbers s.values e))) f. f r) es
    (all_both (known-result widths s S) es R.fit K)
    (all_both {P = λ e. result widths s e ≡ row (width_at widths e.target) 0 (e.value (operand_numbers s.values e)) → Left e} (λ e t n r. t ∙ r ∙ ap (row (width_at widths e.target) 0) (sym n)) es
    (step-targets widths s S es R) (plain-targets widths es R s.values S.values_length))
  where
    Left : Effect → Type 0
    Left e = row_at widths (step widths es s) e.target ≡ row (width_at widths e.target) 0 (get_or (plain_step es s.values) e.target 0)

-- ---- one record

module _ (t : Table) (A : TablePassed t) (s : ℕ) (h : s < record_count t) (rows : State) (S : StateFits t.widths rows) (K : KnownBefore t s rows) where
  abbrev words : List ℕ
  words = record_of t s

  abbrev wt : ℕ
  wt = width_at t.widths (target_word words)

  abbrev p : ℕ
  p = parameter_word words

  abbrev ws : List ℕ
  ws = operand_widths t.widths words

  abbrev ns : List ℕ
  ns = map (λ i. get_or rows.values i 0) (rows_named words)

  R : RecordPassed t.widths words
  R = A.record_passed s h

  -- the operand rows of each effect are known
  operands-known : All (λ e. All (λ i. get_or rows.masks i 0 ≡ 0) e.operands) (effects_of t.widths words)
  unfolding effects_of effect_of
  operands-known =
      all_map (λ e. All (λ i. get_or rows.masks i 0 ≡ 0) e.operands) (effect_of t.widths words) (λ q k. once-all (named_twice words) (λ i. get_or rows.masks i 0 ≡ 0) q.operands k)
      (parts_of words) (parts-operands words R.kind_known (λ i. get_or rows.masks i 0 ≡ 0) K)

  abbrev Numbered : ℕ → Type 0
  Numbered i = row_at t.widths (step t.widths (effects_of t.widths words) rows) i ≡ row (width_at t.widths i) 0 (get_or (plain_step (effects_of t.widths words) rows.values) i 0)

  pub plain_step_lem : All Numbered (target_rows words)
  plain_step_lem =
      subst (All Numbered) (effect-targets t.widths words)
      (all_map Numbered (λ (e : Effect). e.target) (λ e n. n) (effects_of t.widths words) (known-effects t.widths rows S (effects_of t.widths words) (effects-fit t.widths words R) operands-known))

  -- ---- a record without cells

  module _ (none : T (not (is_base (kind_in words).use_c))) where
    -- the operands' numbers, the values of fully known rows, are below their widths
    below : Below ws ns
    below = pointwise-map (λ w n. n < 2 ^ w) (width_at t.widths) (λ i. get_or rows.values i 0) (λ i l. (S.formed i l).value_below) (rows_named words) R.operands_in

    of_kind : (m : Term) → TermFor t.widths words m → m.kind ≡ kind_in words
    of_kind m F = sym (term-kind F.listed) ∙ ap kind_of F.of_kind

    is-row : T (is_row (kind_in words).use_t)
    is-row = target_row words R.kind_known none

    served : (m : Term) → TermFor t.widths words m → Served m wt p ws ns
    served m F =
        let e = of_kind m F in
        let named = rows-one words R.kind_known none in
        let target = (subst (All (λ i. i < length t.widths)) (one-target words is-row) R.targets_in).0 in
        record {
          count = ap (λ (l : List ℕ). length (map (width_at t.widths) l)) named
              ∙ operands-count (width_at t.widths) (kind_in words) (first_word words) (second_word words) (sixth_word words) ∙ ap arity (sym e);
          wide = (A.row_passed (target_word words) target).width_least;
          widths = all_map (λ w. 1 ≤ w) (width_at t.widths) (λ i l. (A.row_passed i l).width_least) (rows_named words) R.operands_in;
          below = below;
          fits = subst (λ (k : Kind). T (asks k.rule wt ws p)) (sym e)
              (subst (λ (l : List ℕ). T (asks (kind_in words).rule wt (map (width_at t.widths) l) p)) (sym named) (subst T (one-fits t.widths words R.kind_known none) R.widths_are_fit));
          parameter = subst (λ (k : Kind). T (not (misused k.use_p p))) (sym e) R.parameter_used;
          serves = F.serves;
        }

    -- the row that the record leaves at its target
    left-row : row_at t.widths (step t.widths (effects_of t.widths words) rows) (target_word words)
        ≡ row wt 0 ((kind_in words).plain wt ws p ns)
    unfolding effect_of
    left-row =
        let one = one-effect t.widths words is-row in
        subst (λ (es : List Effect). row_at t.widths (step t.widths es rows) (target_word words) ≡ row wt 0 ((kind_in words).plain wt ws p ns)) (sym one)
        ((step-targets t.widths rows S _ (subst (FitRecord t.widths) one (effects-fit t.widths words R))).0
        ∙ known-result t.widths rows S (effect_of t.widths words (whole_part words)) (subst (FitRecord t.widths) one (effects-fit t.widths words R)).fit.0
        (once-all (named_twice words) (λ i. get_or rows.masks i 0 ≡ 0) (rows_named words) K)
        ∙ ap (row wt 0) (plain-number t.widths words R.kind_known rows.values))

    -- that row is the one of each term for the record
    term-row : (m : Term) → TermFor t.widths words m
        → row wt 0 ((kind_in words).plain wt ws p ns) ≡ known_row (smt_vector m t.widths words rows.values)
    term-row m F =
        let agrees = term-agrees F.listed in
        let w = agrees.width_is wt p ws ns (served m F) in
        let n = ap (λ (k : Kind). k.plain wt ws p ns) (sym (of_kind m F))
        ∙ sym (agrees.number_is wt p ws ns (served m F)) in
        λ ι. row (sym w ι) 0 (n ι)

    some_term : (m : Term) × TermFor t.widths words m
    some_term =
        let (m, member, e, all) = term_of (kind_word words) R.kind_known none in (
          m,
          record { listed = Memᴰ.append_left narrow_terms member; of_kind = e; serves = all _ _ },
        )

    pub smt-step : SmtNumber t s rows (step t.widths (effects_of t.widths words) rows)
    smt-step = record { some_term = some_term; target_is = λ m F. left-row ∙ term-row m F }

-- ---- every point of an accepted run

module _ (t : Table) (first last : ℕ) (A : Accepted t first last) (s : ℕ) (h : first ≤ s) (l : s < last) (K : KnownBefore t s (point_rows t first s)) where
  S₀ : StateFits t.widths (start_of t)
  S₀ = start_fits t A.table

  abbrev rows : State
  rows = after (program_of t) first (s - first) (start_of t)

  here : point_rows t first s ≡ rows
  here = at-point t first last A (start_of t) S₀ s h (omega arith)

  there : point_rows t first (suc s) ≡ step t.widths (effects_of t.widths (record_of t s)) rows
  unfolding after
  there =
      let next : suc s - first ≡ suc (s - first) = omega arith in
      at-point t first last A (start_of t) S₀ (suc s) (omega arith) l ∙ ap (λ (n : ℕ). after (program_of t) first n (start_of t)) next
      ∙ ap (λ (i : ℕ). step t.widths (effects_of t.widths (record_of t i)) rows) (add-sub_of_le h)

  inside : s < record_count t
  inside = let w = A.within in omega arith

  fits : StateFits t.widths rows
  fits = after-fits (program_of t) first (start_of t) S₀ (s - first)

  pub smt-number : T (not (is_base (kind_in (record_of t s)).use_c)) → SmtNumber t s (point_rows t first s) (point_rows t first (suc s))
  smt-number none = subst₂ (SmtNumber t s) (sym here) (sym there) (smt-step t A.table s inside rows fits (subst (KnownBefore t s) here K) none)

  -- the plain run of the record alone
  one-record : (ns : List ℕ) → plain_run t s (suc s) ns ≡ plain_step (effects_of t.widths (record_of t s)) ns
  unfolding plain_after
  one-record ns =
      let e : suc s - s ≡ 1 = omega arith in
      ap (λ (n : ℕ). plain_after (program_of t) s n ns) e ∙ ap (λ (i : ℕ). plain_step (effects_of t.widths (record_of t i)) ns) (add-zero s)

  pub plain-number-of : PlainNumbers t s (point_rows t first s) (point_rows t first (suc s))
  plain-number-of =
      subst₂ (PlainNumbers t s) (sym here) (sym there)
      (subst (λ (f : List ℕ → List ℕ). All (λ i. row_at t.widths (step t.widths (effects_of t.widths (record_of t s)) rows) i ≡ row (width_at t.widths i) 0 (get_or (f rows.values) i 0)) (target_rows (record_of t s)))
      (λ ι ns. sym (one-record ns) ι)
      (plain_step_lem t A.table s inside rows fits (subst (KnownBefore t s) here K)))

pub demand2 : (t : Table) (first last : ℕ) → Accepted t first last → Demand2 t first last (point_rows t first last)
demand2 t first last A = record { end = refl; numbers = λ s h l K none. smt-number t first last A s h l K none; plain_numbers = plain-number-of t first last A }
