-- Demand 3, for every table and every stretch that run accepts, with all kinds. Assumes nothing.
use mathlib.Core.Path.{◌≡◌, refl, sym, ap, ◌∙◌, subst, subst₂}
use Prim.Native.Nat.{ℕ, suc, ◌-◌, ◌≤◌, ◌<◌}
use native.Mathlib.Nat.{add-sub_of_le, sub_self}
use native.Mathlib.Omega.{arith}
use Rattle.operations.proofs.Parts.{targets-distinct}
use Rattle.checks.specs.Check.{Answer, done, leaving}
use Rattle.checks.specs.Table.{State, Table, start_of, with_rows, record_of}
use Rattle.checks.specs.Checks.{run_checks}
use Rattle.checks.specs.Accepted.{TablePassed, Accepted}
use Rattle.checks.proofs.Accepts.{accepted-of-passed, answer-of-accepted}
use Rattle.steps.specs.Step.{after}
use Rattle.tables.specs.Run.{effects_at, program_of, Ran, run_of, point_rows, plain_run}
use Rattle.tables.specs.Demand.{After, Demand3}
use Rattle.steps.specs.States.{StateFits, CoversState, InsideState}
use Rattle.checks.proofs.Leaving.{leaving-passed}
use Rattle.tables.proofs.Fits.{FitProgram, effect-targets, effects-fit}
use Rattle.tables.proofs.Points.{Stretch, stretch, after-fits}

-- ---- run and acceptance

pub ran-done : (t : Table) (first last : ℕ) → Accepted t first last
    → run_of t first last ≡ record { answer = done last; left = after (program_of t) first (last - first) (start_of t) }
unfolding run_of
ran-done t first last A = ap (λ (a : Answer ℕ). leaving a (start_of t) (after (program_of t) first (last - first) (start_of t))) (answer-of-accepted t first last last A)

-- an answer that is a result shows acceptance
pub accepted-of-run : (t : Table) (first last n : ℕ) → (run_of t first last).answer ≡ done n → Accepted t first last
unfolding run_of
accepted-of-run t first last n e =
    accepted-of-passed t first last (leaving-passed (start_of t) (after (program_of t) first (last - first) (start_of t)) (run_checks t first last) last n e)

-- ---- what an accepted table gives

pub start_fits : (t : Table) → TablePassed t → StateFits t.widths (start_of t)
start_fits t A = record { masks_length = A.masks_length; values_length = A.values_length; formed = λ i h. (A.row_passed i h).formed }

pub program-fits : (t : Table) → TablePassed t → FitProgram (program_of t)
program-fits t A i h = effects-fit t.widths (record_of t i) (A.record_passed i h)

-- the same table with other well-formed rows, and a stretch that ends earlier, is accepted too
pub accepted-with : (t : Table) (first last : ℕ) → Accepted t first last → (rows : State) → StateFits t.widths rows
    → (s : ℕ) → first ≤ s → s ≤ last → Accepted (with_rows t rows) first s
accepted-with t first last A rows S s h l =
    record {
      table = record {
        rows_least = A.table.rows_least;
        rows_most = A.table.rows_most;
        locks_length = A.table.locks_length;
        masks_length = S.masks_length;
        values_length = S.values_length;
        words_whole = A.table.words_whole;
        records_most = A.table.records_most;
        row_passed = λ i k.
            let R = A.table.row_passed i k in
            record { width_least = R.width_least; width_most = R.width_most; lock_most = R.lock_most; formed = S.formed i k };
        record_passed = A.table.record_passed;
      };
      ordered = h;
      within = let w = A.within in omega arith;
      open_targets = A.open_targets;
    }

-- ---- the theorem

module _ (t : Table) (first last : ℕ) (A : Accepted t first last) where
  fits : StateFits t.widths (start_of t)
  fits = start_fits t A.table

  whole : Stretch (program_of t) first (last - first) (start_of t)
  whole = stretch (program_of t) (program-fits t A.table) first (last - first) (let o = A.ordered in let w = A.within in omega arith) (start_of t) fits

  answers : (rows : State) → StateFits t.widths rows → (s : ℕ) → first ≤ s → s ≤ last → (run_of (with_rows t rows) first s).answer ≡ done s
  answers rows S s h l = ap (λ (r : Ran). r.answer) (ran-done (with_rows t rows) first s (accepted-with t first last A rows S s h l))

  -- the rows at a point, of the run from the start rows or from others, are those after that many records
  pub at-point : (rows : State) → StateFits t.widths rows → (s : ℕ) → first ≤ s → s ≤ last → point_rows (with_rows t rows) first s ≡ after (program_of t) first (s - first) rows
  at-point rows S s h l = ap (λ (r : Ran). r.left) (ran-done (with_rows t rows) first s (accepted-with t first last A rows S s h l))

  formed : (s : ℕ) → first ≤ s → s ≤ last → StateFits t.widths (point_rows t first s)
  formed s h l = subst (StateFits t.widths) (sym (at-point (start_of t) fits s h l)) (after-fits (program_of t) first (start_of t) fits (s - first))

  best_results : (s : ℕ) → first ≤ s → s < last → After t.widths (effects_at t s) (point_rows t first s) (point_rows t first (suc s))
  best_results s h l =
      let next : suc s - first ≡ suc (s - first) = omega arith in
      let before = at-point (start_of t) fits s h (omega arith) in
      let behind = at-point (start_of t) fits (suc s) (omega arith) l ∙ ap (λ (n : ℕ). after (program_of t) first n (start_of t)) next in
      subst₂ (After t.widths (effects_at t s)) (sym before) (sym behind)
      (subst (λ (i : ℕ). After t.widths (effects_at t i) (after (program_of t) first (s - first) (start_of t)) (after (program_of t) first (suc (s - first)) (start_of t)))
      (add-sub_of_le h) (whole.best_results (s - first) (omega arith)))

  pub demand3 : Demand3 t first last (point_rows t first last)
  unfolding after
  demand3 =
      record {
        end = refl;
        points = answers (start_of t) fits;
        start = at-point (start_of t) fits first (omega arith) A.ordered ∙ ap (λ (n : ℕ). after (program_of t) first n (start_of t)) (sub_self first);
        formed = λ s h l. (formed s h l).formed;
        targets_exact = λ s h l. (effect-targets t.widths (record_of t s), targets-distinct (record_of t s));
        best_results = best_results;
        plain_runs = λ ns C s h l.
            subst (λ (r : State). CoversState t.widths r (plain_run t first s ns)) (sym (at-point (start_of t) fits s h l)) (whole.plain_runs ns C (s - first) (omega arith));
        inner_runs = λ inner S I s h l. (
          answers inner S s h l,
          subst₂ (InsideState t.widths) (sym (at-point inner S s h l)) (sym (at-point (start_of t) fits s h l)) (whole.inner_runs inner S I (s - first) (omega arith)),
        );
      }
