-- Runs from a start row that is narrowed to a range. Assumes nothing.
use mathlib.Core.Path.{sym, ap, subst, subst₂}
use mathlib.Core.List.{List}
use Prim.Native.Nat.{ℕ, ◌≤◌, ◌<◌}
use native.Mathlib.Nat.{le_refl}
use native.Mathlib.Decide.{ℕ_discrete}
use lib.ListN.{length, get_or}
use Rattle.vectors.specs.Row.{Row, row, Covers}
use Rattle.vectors.specs.Hull.{Hull}
use Rattle.vectors.proofs.Hulls.{hull-covers}
use Rattle.operations.specs.Record.{width_at}
use Rattle.range_search.specs.declared.Range.{Range}
use Rattle.range_search.specs.Range.{Between, Ranged}
use Rattle.checks.specs.Table.{State, row_at, Table, start_of}
use Rattle.checks.specs.Accepted.{Accepted}
use Rattle.steps.specs.Step.{put}
use Rattle.tables.specs.Run.{point_rows}
use Rattle.tables.specs.Demand.{Demand3}
use Rattle.steps.specs.States.{StateFits, CoversState}
use Rattle.steps.proofs.Put.{row_same, row_other, fits-put}
use Rattle.tables.proofs.Demand3.{accepted-of-run, start_fits, accepted-with, demand3}
use Rattle.vector_calls.specs.RangeRuns.{put_row, RunOn, RunsOn}

-- numbers that a state covers, of which that of row i lies between the ends, are covered with the narrowed row
narrowed-covers : (widths : List ℕ) (s : State) → StateFits widths s → (i low high : ℕ) → i < length widths → (x : Row) → Hull (width_at widths i) (Between (row_at widths s i) low high) x
    → (ns : List ℕ) → CoversState widths s ns → low ≤ get_or ns i 0 → get_or ns i 0 ≤ high → CoversState widths (put s i x) ns
narrowed-covers widths s S i low high i-in x H ns C l u =
    record {
      count = C.count;
      covers = λ j h. elim (ℕ_discrete j i) [
        | yes e ↦ subst₂ Covers (sym (row_same widths s S i x H.width_is j e h)) (ap (λ (k : ℕ). get_or ns k 0) (sym e))
            (hull-covers (width_at widths i) (Between (row_at widths s i) low high) x H (get_or ns i 0) (record { covered = C.covers i i-in; from = l; to = u }) (C.covers i i-in).below)
        | no d ↦ subst (λ (r : Row). Covers r (get_or ns j 0)) (sym (row_other widths s i x j d)) (C.covers j h)
      ];
    }

run_on : (t : Table) (first last i low high : ℕ) (x : Row) → Accepted t first last → i < length t.widths
    → Hull (width_at t.widths i) (Between (row_at t.widths (start_of t) i) low high) x → RunOn low high x t first last i
run_on t first last i low high x A h H =
    record {
      accepted = D.points;
      covers = λ ns C l u. D.plain_runs ns (narrowed-covers t.widths (start_of t) fits i low high h x H ns C l u);
    }
  where
    fits : StateFits t.widths (start_of t)
    fits = start_fits t A.table

    D : Demand3 (put_row t i x) first last (point_rows (put_row t i x) first last)
    D =
        demand3 (put_row t i x) first last
        (accepted-with t first last A (put (start_of t) i x) (fits-put t.widths (start_of t) fits i x H.width_is H.formed) last A.ordered (le_refl last))

-- an answer of range, put in the place of its vector
pub runs_on : (r : Row) (low high : ℕ) (x : Range) → Ranged r low high x → RunsOn r low high (row r.width x.mask x.value)
runs_on r low high x R t first last i a h e =
    run_on t first last i low high (row r.width x.mask x.value) (accepted-of-run t first last last a) h
    (subst (λ (q : Row). Hull q.width (Between q low high) (row r.width x.mask x.value)) (sym e) R.best_vector)
