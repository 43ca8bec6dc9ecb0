-- What settle's checks give, passed or not, and what it then answers and leaves. Assumes nothing.
use mathlib.Core.Path.{◌≡◌, sym, ◌∙◌, subst}
use mathlib.Core.Logic.{◌≢◌}
use mathlib.Core.Bool.{not}
use mathlib.Core.List.{List}
use Prim.Native.Nat.{ℕ, ◌<◌}
use native.Mathlib.Omega.{arith}
use lib.Dec.{T, T_not, not_T, eqb, eqb→eq, nleb→lt}
use lib.ListN.{length, get_or}
use Rattle.bits.specs.Below.{some_below}
use Rattle.bits.proofs.Bools.{T_not-not, eq→eqb}
use Rattle.bits.proofs.Below.{some_below-intro}
use Rattle.vectors.specs.Lists.{All, some_of}
use Rattle.vectors.proofs.Lists.{all-imp, all-unmap, none-all}
use Rattle.vectors.proofs.ListParts.{listed-all, listed-map}
use Rattle.vectors.proofs.Distincts.{listed-distinct}
use Rattle.vectors.specs.Lists.{Distinct}
use Rattle.operations.specs.Record.{width_at, target_rows}
use Rattle.checks.specs.Check.{done, refused, placed, Passed}
use Rattle.checks.specs.Table.{State, Table, start_of, record_count, record_of}
use Rattle.checks.specs.Checks.{run_checks}
use Rattle.checks.specs.Model.{judged}
use Rattle.checks.proofs.Verdicts.{passed-append, passed-left, passed-right, passed-of-done, rising-elim}
use Rattle.checks.proofs.Accepts.{accepted-of-passed, passed-of-accepted}
use Rattle.tables.specs.Run.{Ran, effects_at, full_run}
use Rattle.tables.proofs.Fits.{effect-targets}
use Rattle.checks.proofs.Leaving.{leaving-done, leaving-refused, leaving-claims, Meets, meets}
use Rattle.rounds.specs.Clock.{Pair, pair_at, pairs_of, rounds_of, last_start}
use Rattle.rounds.specs.Settle.{written_row, state_twice, uneven_faults, pair_faults, each_pair_checks, pair_checks, settle_checks, settle_of, Settles}
use Rattle.rounds.specs.Encoding.{PairsReady, SettleReady}
use Rattle.rounds.proofs.Round.{FitPair, FitPairs}
use Rattle.rounds.proofs.Clocks.{settles}

module _ (t : Table) (ss ns : List ℕ) where
  -- ---- what check 20 gives

  -- a row that no record writes is no effect's target
  unwritten : (i : ℕ) → T (not (written_row t i)) → (k : ℕ) → k < record_count t → All (λ e. e.target ≢ i) (effects_at t k)
  unfolding written_row
  unwritten i u k h =
      all-unmap (λ j. j ≢ i) (λ e. e.target) (effects_at t k)
      (subst (All (λ j. j ≢ i)) (sym (effect-targets t.widths (record_of t k)))
      (all-imp (λ j v e. T_not (eqb j i) v (eq→eqb e)) (target_rows (record_of t k))
      (none-all (λ j. eqb j i) (target_rows (record_of t k))
      (not_T (some_of (λ j. eqb j i) (target_rows (record_of t k))) (λ w. T_not (some_below (record_count t) (λ k. some_of (λ j. eqb j i) (target_rows (record_of t k)))) u (some_below-intro (record_count t) _ k h w))))))

  pair_fits : (i : ℕ) → Passed (placed 0 (pair_faults t ss ns i)) → FitPair t (pair_at ss ns i)
  pair_fits i P =
      record {
        state_in = nleb→lt _ _ P.0;
        next_in = nleb→lt _ _ P.1.0;
        one_width = eqb→eq _ _ (T_not-not (eqb (width_at t.widths (get_or ss i 0)) (width_at t.widths (get_or ns i 0))) P.1.1.0);
        not_written = unwritten (get_or ss i 0) P.1.1.1.1.1.0;
      }

  module _ (P : Passed (pair_checks t ss ns)) where
    at_pair : (i : ℕ) → i < length ss → Passed (placed 0 (pair_faults t ss ns i))
    unfolding pair_checks
    at_pair = rising-elim (λ i. placed 0 (pair_faults t ss ns i)) (length ss) (passed-right (placed 0 (uneven_faults ss ns)) (each_pair_checks t ss ns) P)

    even : length ns ≡ length ss
    unfolding pair_checks
    even = eqb→eq _ _ (T_not-not (eqb (length ns) (length ss)) (passed-left (placed 0 (uneven_faults ss ns)) (each_pair_checks t ss ns) P).0)

    once : (i j : ℕ) → i < j → j < length ss → get_or ss j 0 ≢ get_or ss i 0
    once i j l h e = T_not (state_twice ss j) (at_pair j h).1.1.1.0 (some_below-intro j (λ k. eqb (get_or ss k 0) (get_or ss j 0)) i l (eq→eqb (sym e)))

    pub pairs-fit : FitPairs t (pairs_of ss ns)
    unfolding pairs_of
    pairs-fit =
        record {
          fit = listed-all (FitPair t) (pair_at ss ns) 0 (length ss) (λ i l u. pair_fits i (at_pair i (omega arith)));
          named_once = subst Distinct (sym (listed-map (λ (p : Pair). p.state) (pair_at ss ns) 0 (length ss)))
              (listed-distinct (λ i. get_or ss i 0) 0 (length ss) (λ i j l m u. once i j m (omega arith)));
        }

    pub pairs-ready : PairsReady (length t.widths) ss ns
    pairs-ready =
        record {
          even = even;
          states_in = λ i h. (pair_fits i (at_pair i h)).state_in;
          nexts_in = λ i h. (pair_fits i (at_pair i h)).next_in;
          named_once = once;
        }

  -- ---- what is answered

  ready-of-passed : Passed (settle_checks t ss ns) → SettleReady t ss ns
  unfolding settle_checks
  ready-of-passed P =
      record {
        accepted = accepted-of-passed t 0 (record_count t) (passed-left (run_checks t 0 (record_count t)) (pair_checks t ss ns) P);
        paired = passed-right (run_checks t 0 (record_count t)) (pair_checks t ss ns) P;
      }

  pub ready-of-answer : judged (settle_checks t ss ns) ≡ done tt → SettleReady t ss ns
  ready-of-answer e = ready-of-passed (passed-of-done (settle_checks t ss ns) tt tt e)

  pub settle-refused : (n i : ℕ) → judged (settle_checks t ss ns) ≡ refused n i → ◌≡◌ {A = Ran} (record { answer = refused n i; left = start_of t }) (settle_of t ss ns)
  unfolding settle_of
  settle-refused n i e = leaving-refused (start_of t) _ (settle_checks t ss ns) (rounds_of t (pairs_of ss ns)) n i e

  pub settle-done : SettleReady t ss ns → (n : ℕ) → n ≡ rounds_of t (pairs_of ss ns) → (rows : State) → rows ≡ full_run t (last_start t (pairs_of ss ns))
      → ◌≡◌ {A = Ran} (record { answer = done n; left = rows }) (settle_of t ss ns)
  unfolding settle_of settle_checks
  settle-done R n e rows f =
      (λ ι. record { answer = done (e ι); left = f ι })
      ∙ leaving-done (start_of t) (full_run t (last_start t (pairs_of ss ns))) (settle_checks t ss ns) (rounds_of t (pairs_of ss ns))
      (passed-append (run_checks t 0 (record_count t)) (pair_checks t ss ns) (passed-of-accepted t 0 (record_count t) R.accepted) R.paired)

  -- ---- the claim, of every call that is answered

  settles-of-answer : (n : ℕ) → (settle_of t ss ns).answer ≡ done n → Settles t (pairs_of ss ns) n (settle_of t ss ns).left
  unfolding settle_of
  settles-of-answer =
      leaving-claims (start_of t) (full_run t (last_start t (pairs_of ss ns))) (settle_checks t ss ns) (rounds_of t (pairs_of ss ns)) (Settles t (pairs_of ss ns))
      (λ P. let R = ready-of-passed P in settles t R.accepted (pairs_of ss ns) (pairs-fit R.paired))

  pub settle-meets : (a : Ran) → a ≡ settle_of t ss ns → Meets (settle_of t ss ns) (Settles t (pairs_of ss ns)) a
  settle-meets = meets (settle_of t ss ns) (Settles t (pairs_of ss ns)) settles-of-answer
