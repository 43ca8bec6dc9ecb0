-- The claim: rounds end in time, and every plain clock is covered. Assumes nothing.
use mathlib.Core.Path.{◌≡◌, refl, sym, ap, ◌∙◌, subst}
use mathlib.Core.Logic.{◌≢◌}
use mathlib.Core.List.{List}
use Prim.Native.Nat.{ℕ, zero, suc, ◌-◌, ◌≤◌, ◌<◌}
use native.Mathlib.Omega.{arith}
use lib.ListN.{get_or}
use Rattle.vectors.specs.Lists.{All}
use Rattle.vectors.proofs.Lists.{all-imp}
use Rattle.checks.specs.Table.{State, row_at, Table, start_of, with_rows, record_count}
use Rattle.checks.specs.Accepted.{Accepted}
use Rattle.steps.specs.States.{CoversState}
use Rattle.tables.specs.Run.{effects_at, full_run, point_rows, plain_run}
use Rattle.tables.specs.Demand.{Demand3}
use Rattle.tables.proofs.FullRuns.{full-demand3}
use Rattle.rounds.specs.Clock.{Pair, round_from, round_start, rounds_of, last_start, latch, plain_clocks}
use Rattle.rounds.specs.Settle.{Settles}
use Rattle.rounds.proofs.Round.{FitPairs, unknown_bits, widen-best, widen-around, widen-covers, last-same, full-fits}
use Rattle.rounds.proofs.Counted.{kept, rises, ends-in-time}

module _ (t : Table) (A : Accepted t 0 (record_count t)) (ps : List Pair) (K : FitPairs t ps) where
  abbrev last : ℕ
  last = rounds_of t ps - 1

  abbrev final : State
  final = round_start t ps last

  is-rounds : suc last ≡ rounds_of t ps
  is-rounds = let s = (ends-in-time t A ps K).some in omega arith

  no_change : round_from t ps final ≡ final
  no_change = let s = (ends-in-time t A ps K).some in last-same t ps final ((ends-in-time t A ps K).last last (omega arith))

  run_of : (m : ℕ) → Demand3 (with_rows t (round_start t ps m)) 0 (record_count t) (full_run t (round_start t ps m))
  run_of m = full-demand3 t A (round_start t ps m) (kept t A ps K m).fits

  -- a row that no record writes
  point-others : (i : ℕ) → ((j : ℕ) → j < record_count t → All (λ e. e.target ≢ i) (effects_at t j)) → (j : ℕ) → j ≤ record_count t
      → row_at t.widths (point_rows (with_rows t final) 0 j) i ≡ row_at t.widths final i
  point-others i d zero h = ap (λ (r : State). row_at t.widths r i) (run_of last).start
  point-others i d (suc j) h = ((run_of last).best_results j (omega arith) h).others i (d j h) ∙ point-others i d j (omega arith)

  -- the numbers that a clock is brought are covered by the last round's start rows
  wider-last : (ns : List ℕ) → CoversState t.widths (start_of t) ns → CoversState t.widths final ns
  wider-last ns D = record { count = D.count; covers = λ i h. (kept t A ps K last).wider i h (get_or ns i 0) (D.covers i h) }

  -- so are those from which every clock runs
  clocks-covered : (inputs : ℕ → List ℕ) → ((m : ℕ) → CoversState t.widths (start_of t) (inputs m)) → (m : ℕ) → CoversState t.widths final (plain_clocks t ps inputs m)
  unfolding plain_clocks
  clocks-covered inputs C zero = wider-last (inputs zero) (C zero)
  clocks-covered inputs C (suc m) =
      let ran = plain_run t 0 (record_count t) (plain_clocks t ps inputs m) in
      let F = (kept t A ps K last).fits in
      subst (λ (s : State). CoversState t.widths s (latch ps ran (inputs (suc m)))) no_change
      (widen-covers t ps K (full_run t final) final (full-fits t A final F) F ran (inputs (suc m))
      ((run_of last).plain_runs (plain_clocks t ps inputs m) (clocks-covered inputs C m) (record_count t) (omega arith) (omega arith))
      (wider-last (inputs (suc m)) (C (suc m))))

  pub settles : Settles t ps (rounds_of t ps) (full_run t (last_start t ps))
  unfolding round_start
  settles =
      let E = ends-in-time t A ps K in
      record {
        some_round = E.some;
        bound = let b = E.in_time in omega arith;
        accepted = λ m h. (run_of m).points (record_count t) (omega arith) (omega arith);
        others_start = λ m h i d. (kept t A ps K m).others i d;
        best_widening = λ m h. let s = round_start t ps m in let F = (kept t A ps K m).fits in widen-best t ps K (full_run t s) s (full-fits t A s F) F;
        rising = λ m h. let s = round_start t ps m in let F = (kept t A ps K m).fits in widen-around t ps K (full_run t s) s (full-fits t A s F) F;
        earlier_change = λ m h e. let up = rises t A ps K m (E.before m (omega arith) (omega arith)) in let z = ap (unknown_bits t ps) e in omega arith;
        no_change = ap (round_start t ps) (sym is-rounds) ∙ no_change;
        end = refl;
        state_rows = all-imp (λ p F. point-others p.state F.not_written (record_count t) (omega arith)) ps K.fit;
        covered = λ inputs C m s h. (run_of last).plain_runs (plain_clocks t ps inputs m) (clocks-covered inputs C m) s (omega arith) h;
      }
