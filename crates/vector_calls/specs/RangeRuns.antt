-- Runs from a start row that is known within a range (02, request 8).
--   put_row t i x                     the table with the vector x in row i
--   RunOn low high x t first last i  of one run with x in row i: accepted, and covering
--   RunsOn r low high x              that, of every run from a table with r as a start row
use Rattle.std.specs.Prelude.{◌≡◌, List, ℕ, ◌≤◌, ◌<◌, length, get_or}
use Rattle.vectors.specs.Row.{Row}
use Rattle.checks.specs.Check.{done}
use Rattle.checks.specs.Table.{row_at, Table, start_of, with_rows}
use Rattle.steps.specs.Step.{put}
use Rattle.tables.specs.Run.{run_of, point_rows, plain_run}
use Rattle.steps.specs.States.{CoversState}

abbrev pub put_row : Table → ℕ → Row → Table
put_row t i x = with_rows t (put (start_of t) i x)

-- accepted: "a run accepted from it is accepted with this answer in its place", up to every point.
-- covers: "and covers at every point each plain run whose number for that row starts between the ends".
pub record RunOn (low high : ℕ) (x : Row) (t : Table) (first last i : ℕ) : Type 0 where
  pub accepted : (s : ℕ) → first ≤ s → s ≤ last → (run_of (put_row t i x) first s).answer ≡ done s
  pub covers : (ns : List ℕ) → CoversState t.widths (start_of t) ns → low ≤ get_or ns i 0 → get_or ns i 0 ≤ high → (s : ℕ) → first ≤ s → s ≤ last
      → CoversState t.widths (point_rows (put_row t i x) first s) (plain_run t first s ns)

-- "Where the vector is a start row"
abbrev pub RunsOn : Row → ℕ → ℕ → Row → Type 0
RunsOn r low high x =
    (t : Table) (first last i : ℕ) → (run_of t first last).answer ≡ done last → i < length t.widths → row_at t.widths (start_of t) i ≡ r
    → RunOn low high x t first last i
