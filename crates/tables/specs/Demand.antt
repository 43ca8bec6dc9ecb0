-- Demand 3 (01, "Points and plain runs"): "a single claim about the whole stretch and all its points, and not one for each record or kind".
--   After widths es s t        the rows s, then a record with the effects es, then the rows t
--   Demand3 t first last rows  the claim, of the rows that run leaves
use Rattle.std.specs.Prelude.{◌≡◌, ◌≢◌, List, map, ℕ, suc, ◌≤◌, ◌<◌, length}
use Rattle.vectors.specs.Lists.{All, Distinct}
use Rattle.vectors.specs.Row.{WellFormed}
use Rattle.vectors.specs.Best.{Exact}
use Rattle.operations.specs.Record.{Effect, width_at, target_rows}
use Rattle.checks.specs.Check.{done}
use Rattle.checks.specs.Table.{State, row_at, Table, start_of, with_rows, record_of}
use Rattle.steps.specs.States.{StateFits, CoversState, InsideState}
use Rattle.steps.specs.Step.{operand_rows}
use Rattle.tables.specs.Run.{effects_at, run_of, point_rows, plain_run}

-- Each target row is exact and has the fewest unknown bits over free choices from the operand rows just before; no other row has changed.
pub record After (widths : List ℕ) (es : List Effect) (s t : State) : Type 0 where
  pub targets : All (λ e. Exact (width_at widths e.target) e.value (operand_rows widths s e) (row_at widths t e.target)) es
  pub others : (i : ℕ) → All (λ e. e.target ≢ i) es → row_at widths t i ≡ row_at widths s i

-- end: the rows left are those at point last.  points: run from first up to each point is accepted.
-- start: at point first they are the start rows, as lent.  formed: at every point every row is well formed: no bit is set in both mask and value.
-- targets_exact: the rows that a record writes are exactly its row t, or for a store exactly the rows of its span, each once.  best_results: what each record does.
-- plain_runs: whatever plain numbers the start rows covered, the plain run from them is covered at every point.
-- inner_runs: from other well-formed start rows, each inside the first run's, a second run is accepted and stays inside at every point.
pub record Demand3 (t : Table) (first last : ℕ) (rows : State) : Type 0 where
  pub end : rows ≡ point_rows t first last
  pub points : (s : ℕ) → first ≤ s → s ≤ last → (run_of t first s).answer ≡ done s
  pub start : point_rows t first first ≡ start_of t
  pub formed : (s : ℕ) → first ≤ s → s ≤ last → (i : ℕ) → i < length t.widths → WellFormed (row_at t.widths (point_rows t first s) i)
  pub targets_exact : (s : ℕ) → first ≤ s → s < last → (map (λ e. e.target) (effects_at t s) ≡ target_rows (record_of t s)) × Distinct (target_rows (record_of t s))
  pub best_results : (s : ℕ) → first ≤ s → s < last → After t.widths (effects_at t s) (point_rows t first s) (point_rows t first (suc s))
  pub plain_runs : (ns : List ℕ) → CoversState t.widths (start_of t) ns → (s : ℕ) → first ≤ s → s ≤ last
      → CoversState t.widths (point_rows t first s) (plain_run t first s ns)
  pub inner_runs : (inner : State) → StateFits t.widths inner → InsideState t.widths inner (start_of t) → (s : ℕ) → first ≤ s → s ≤ last
      → ((run_of (with_rows t inner) first s).answer ≡ done s) × InsideState t.widths (point_rows (with_rows t inner) first s) (point_rows t first s)
