-- The points of a stretch: what holds after each record. Assumes nothing.
--   Stretch P first n s   demand 3 of the n records from `first` on, run from the rows s, but for what is accepted
use mathlib.Core.List.{List}
use Prim.Native.Nat.{ℕ, zero, suc, ◌+◌, ◌≤◌, ◌<◌}
use native.Mathlib.Omega.{arith}
use Rattle.checks.specs.Table.{State}
use Rattle.steps.specs.Step.{Program, after, plain_after}
use Rattle.tables.specs.Demand.{After}
use Rattle.steps.specs.States.{StateFits, CoversState, InsideState}
use Rattle.tables.proofs.Fits.{FitProgram}
use Rattle.tables.proofs.Steps.{step_fits, step_after, step-covers, step-inside}

pub record Stretch (P : Program) (first n : ℕ) (s : State) : Type 0 where
  pub best_results : (j : ℕ) → j < n → After P.widths (P.effects (first + j)) (after P first j s) (after P first (suc j) s)
  pub plain_runs : (ns : List ℕ) → CoversState P.widths s ns → (j : ℕ) → j ≤ n → CoversState P.widths (after P first j s) (plain_after P first j ns)
  pub inner_runs : (t : State) → StateFits P.widths t → InsideState P.widths t s → (j : ℕ) → j ≤ n → InsideState P.widths (after P first j t) (after P first j s)

-- ---- every point

pub after-fits : (P : Program) (first : ℕ) (s : State) → StateFits P.widths s → (j : ℕ) → StateFits P.widths (after P first j s)
unfolding after
after-fits P first s S zero = S
after-fits P first s S (suc j) = step_fits P.widths (after P first j s) (after-fits P first s S j) (P.effects (first + j))

module _ (P : Program) (R : FitProgram P) (first n : ℕ) (h : first + n ≤ P.count) where
  after-covers : (s : State) → StateFits P.widths s → (ns : List ℕ) → CoversState P.widths s ns → (j : ℕ) → j ≤ n → CoversState P.widths (after P first j s) (plain_after P first j ns)
  unfolding after plain_after
  after-covers s S ns C zero l = C
  after-covers s S ns C (suc j) l =
      step-covers P.widths (after P first j s) (after-fits P first s S j) (P.effects (first + j)) (R (first + j) (omega arith)) (plain_after P first j ns)
      (after-covers s S ns C j (omega arith))

  after-inside : (s : State) → StateFits P.widths s → (t : State) → StateFits P.widths t → InsideState P.widths t s → (j : ℕ) → j ≤ n → InsideState P.widths (after P first j t) (after P first j s)
  unfolding after
  after-inside s S t U I zero l = I
  after-inside s S t U I (suc j) l =
      step-inside P.widths (after P first j t) (after P first j s) (after-fits P first t U j) (after-fits P first s S j)
      (after-inside s S t U I j (omega arith)) (P.effects (first + j)) (R (first + j) (omega arith))

  pub stretch : (s : State) → StateFits P.widths s → Stretch P first n s
  unfolding after
  stretch s S =
      record {
        best_results = λ j l. step_after P.widths (after P first j s) (after-fits P first s S j) (P.effects (first + j)) (R (first + j) (omega arith));
        plain_runs = after-covers s S;
        inner_runs = after-inside s S;
      }
