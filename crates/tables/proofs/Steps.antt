-- What one record does: to the rows, to plain numbers, and to both together. Assumes nothing.
use mathlib.Core.Path.{◌≡◌, sym, subst}
use mathlib.Core.Logic.{◌≢◌}
use mathlib.Core.List.{List, map, map-map}
use Prim.Native.Nat.{ℕ, ◌<◌}
use lib.ListN.{length, get_or}
use Rattle.vectors.specs.Lists.{All}
use Rattle.vectors.specs.Row.{Row, WellFormed, Covers, Inside}
use Rattle.vectors.specs.Choice.{Chosen}
use Rattle.vectors.specs.Best.{Exact}
use Rattle.vectors.proofs.Lists.{all_map, all-imp, all_both, all-of, pointwise-map}
use Rattle.vectors.proofs.Operands.{below-chosen}
use Rattle.vectors.proofs.Bests.{best-by-bits}
use Rattle.vectors.proofs.BestLaws.{best-exact, best-covers, best-mono}
use Rattle.operations.specs.Record.{Effect, width_at}
use Rattle.operations.specs.Result.{Below}
use Rattle.checks.specs.Table.{State, row_at}
use Rattle.steps.specs.Step.{operand_rows, operand_numbers, result, step, plain_step}
use Rattle.tables.specs.Demand.{After}
use Rattle.steps.specs.States.{StateFits, CoversState, InsideState}
use Rattle.tables.proofs.Fits.{Fit, FitRecord}
use Rattle.tables.proofs.PutAll.{FitPut, fits_all, others-all, targets-all, covers-all, inside-all, numbers-length, numbers-other, numbers-all}

-- what the covered operands' numbers are below
pub chosen-below : (widths : List ℕ) (s : State) (is ns : List ℕ) → Chosen (map (row_at widths s) is) ns → Below (map (width_at widths) is) ns
chosen-below widths s is ns c = subst (λ (ws : List ℕ). Below ws ns) (map-map (λ (r : Row). r.width) (row_at widths s) is) (below-chosen (map (row_at widths s) is) ns c)

module _ (widths : List ℕ) where
  results_fit : (s : State) (es : List Effect) → All (λ e. FitPut widths e.target (result widths s e)) es
  results_fit s es = all-of (λ e. let B = best-by-bits (width_at widths e.target) e.value (operand_rows widths s e) in record { width_is = B.width_is; formed = B.formed }) es

  pub operands-formed : (s : State) → StateFits widths s → (e : Effect) → Fit widths e → All WellFormed (operand_rows widths s e)
  operands-formed s S e F = all_map WellFormed (row_at widths s) S.formed e.operands F.operands_in

  pub step_fits : (s : State) → StateFits widths s → (es : List Effect) → StateFits widths (step widths es s)
  unfolding step
  step_fits s S es = fits_all widths (λ e. e.target) (result widths s) es (results_fit s es) s S

  -- each target row is the best result over the operand rows before the record
  pub step-targets : (s : State) → StateFits widths s → (es : List Effect) → FitRecord widths es → All (λ e. row_at widths (step widths es s) e.target ≡ result widths s e) es
  unfolding step
  step-targets s S es R = targets-all widths (λ e. e.target) (result widths s) es (results_fit s es) (all-imp (λ e F. F.target_in) es R.fit) R.distinct s S

  -- other rows are as before
  pub step-others : (s : State) (es : List Effect) (i : ℕ) → All (λ e. e.target ≢ i) es → row_at widths (step widths es s) i ≡ row_at widths s i
  unfolding step
  step-others s es = others-all widths (λ e. e.target) (result widths s) es s

  pub step_after : (s : State) → StateFits widths s → (es : List Effect) → FitRecord widths es → After widths es s (step widths es s)
  step_after s S es R =
      record {
        targets = all_both
            (λ e F p. subst (Exact (width_at widths e.target) e.value (operand_rows widths s e)) (sym p)
            (best-exact (width_at widths e.target) e.value (operand_rows widths s e) (operands-formed s S e F) (λ ns c. F.value_below ns (chosen-below widths s e.operands ns c))))
            es R.fit (step-targets s S es R);
        others = step-others s es;
      }

  pub step-covers : (s : State) → StateFits widths s → (es : List Effect) → FitRecord widths es → (ns : List ℕ) → CoversState widths s ns → CoversState widths (step widths es s) (plain_step es ns)
  unfolding step plain_step
  step-covers s S es R ns C =
      covers-all widths (λ e. e.target) (result widths s) (λ e. e.value (operand_numbers ns e)) es (results_fit s es) (all-imp one es R.fit) s S ns C
    where
      one : (e : Effect) → Fit widths e → Covers (result widths s e) (e.value (operand_numbers ns e))
      one e F =
          let c = pointwise-map Covers (row_at widths s) (λ i. get_or ns i 0) C.covers e.operands F.operands_in in
          best-covers (width_at widths e.target) e.value (operand_rows widths s e) (operand_numbers ns e) c (F.value_below (operand_numbers ns e) (chosen-below widths s e.operands (operand_numbers ns e) c))

  pub step-inside : (s t : State) → StateFits widths s → StateFits widths t → InsideState widths s t → (es : List Effect) → FitRecord widths es → InsideState widths (step widths es s) (step widths es t)
  unfolding step
  step-inside s t S U I es R = inside-all widths (λ e. e.target) (result widths s) (result widths t) es (results_fit s es) (results_fit t es) (all-imp one es R.fit) s t S U I
    where
      one : (e : Effect) → Fit widths e → Inside (result widths s e) (result widths t e)
      one e F =
          best-mono (width_at widths e.target) e.value (operand_rows widths s e) (operand_rows widths t e) (operands-formed s S e F)
          (pointwise-map Inside (row_at widths s) (row_at widths t) I e.operands F.operands_in)

  -- the same of plain numbers: each target's number is the effect's value of the numbers before, others are as before
  pub plain-targets : (es : List Effect) → FitRecord widths es → (ns : List ℕ) → length ns ≡ length widths → All (λ e. get_or (plain_step es ns) e.target 0 ≡ e.value (operand_numbers ns e)) es
  unfolding plain_step
  plain-targets es R ns c =
      numbers-all (λ e. e.target) (λ e. e.value (operand_numbers ns e)) es ns (all-imp (λ e F. subst (λ (m : ℕ). e.target < m) (sym c) F.target_in) es R.fit) R.distinct

pub plain-length : (es : List Effect) (ns : List ℕ) → length (plain_step es ns) ≡ length ns
unfolding plain_step
plain-length es ns = numbers-length (λ e. e.target) (λ e. e.value (operand_numbers ns e)) es ns

pub plain-others : (es : List Effect) (ns : List ℕ) (i : ℕ) → All (λ e. e.target ≢ i) es → get_or (plain_step es ns) i 0 ≡ get_or ns i 0
unfolding plain_step
plain-others es ns = numbers-other (λ e. e.target) (λ e. e.value (operand_numbers ns e)) es ns
