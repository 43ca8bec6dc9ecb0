-- How many rounds there are: every round but the last raises the unknown bits of the state rows, so the last comes in time. Assumes nothing.
--   Kept t ps s      what every round keeps
--   Ends t ps r n    from round r on there are n rounds: the last changes nothing, each before it something
use mathlib.Core.Path.{◌≡◌, refl, sym, ◌∙◌, subst}
use mathlib.Core.Bool.{not, cond}
use mathlib.Core.Logic.{◌≢◌}
use mathlib.Core.List.{List, map}
use Prim.Native.Nat.{ℕ, zero, suc, ◌+◌, ◌-◌, ◌*◌, ◌≤◌, ◌<◌}
use native.Mathlib.Decide.{ℕ_discrete, dec_lt}
use native.Mathlib.Omega.{arith}
use lib.Dec.{T, T_not}
use lib.ListN.{length, get_or, length-map}
use Rattle.bits.specs.Limits.{width_limit}
use Rattle.bits.proofs.Counts.{ones_in-le}
use Rattle.bits.proofs.Bools.{when_true, when_false, T-cases}
use Rattle.vectors.specs.Lists.{All}
use Rattle.vectors.proofs.Lists.{all-imp, all-of, all_map}
use Rattle.vectors.proofs.Sums.{sum-le, sum-most}
use Rattle.vectors.proofs.Distincts.{distinct-length}
use Rattle.operations.specs.Record.{width_at}
use Rattle.checks.specs.Limits.{row_limit}
use Rattle.checks.specs.Table.{State, row_at, Table, start_of, record_count}
use Rattle.checks.specs.Accepted.{Accepted}
use Rattle.steps.specs.States.{StateFits, InsideState}
use Rattle.tables.specs.Run.{full_run}
use Rattle.tables.proofs.Demand3.{start_fits}
use Rattle.rounds.specs.Clock.{Pair, state_bits, round_from, is_last, round_start, rounds_from, rounds_of}
use Rattle.rounds.proofs.Round.{FitPairs, unknown_bits, widen-fits, widen-around, widen-rises, widen-others, full-fits}

-- the rows fit, all but the state rows are as lent, and every row is around its start
pub record Kept (t : Table) (ps : List Pair) (s : State) : Type 0 where
  pub fits : StateFits t.widths s
  pub others : (i : ℕ) → All (λ p. p.state ≢ i) ps → row_at t.widths s i ≡ row_at t.widths (start_of t) i
  pub wider : InsideState t.widths (start_of t) s

pub record Ends (t : Table) (ps : List Pair) (r n : ℕ) : Type 0 where
  pub some : 1 ≤ n
  pub last : (j : ℕ) → r + n ≡ suc j → T (is_last t ps (round_start t ps j))
  pub before : (j : ℕ) → r ≤ j → suc j < r + n → T (not (is_last t ps (round_start t ps j)))
  pub in_time : n + unknown_bits t ps (round_start t ps r) ≤ state_bits t ps + 1

bits_most : (t : Table) (ps : List Pair) (s : State) → unknown_bits t ps s ≤ state_bits t ps
unfolding unknown_bits
bits_most t ps s = sum-le _ _ ps (all-of (λ p. ones_in-le (width_at t.widths p.state) (get_or s.masks p.state 0)) ps)

module _ (t : Table) (A : Accepted t 0 (record_count t)) (ps : List Pair) (K : FitPairs t ps) where
  pub kept : (m : ℕ) → Kept t ps (round_start t ps m)
  unfolding round_start
  kept zero = record { fits = start_fits t A.table; others = λ i d. refl; wider = λ i h n x. x }
  kept (suc m) =
      let J = kept m in
      let s = round_start t ps m in
      record {
        fits = widen-fits t ps K (full_run t s) s (full-fits t A s J.fits) J.fits;
        others = λ i d. widen-others t ps K (full_run t s) s i d ∙ J.others i d;
        wider = λ i h n x. widen-around t ps K (full_run t s) s (full-fits t A s J.fits) J.fits i h n (J.wider i h n x);
      }

  pub rises : (m : ℕ) → T (not (is_last t ps (round_start t ps m))) → unknown_bits t ps (round_start t ps m) < unknown_bits t ps (round_start t ps (suc m))
  unfolding is_last round_start
  rises m u = let s = round_start t ps m in widen-rises t ps K (full_run t s) s (full-fits t A s (kept m).fits) (kept m).fits u

  ends : (k r : ℕ) → state_bits t ps < k + unknown_bits t ps (round_start t ps r) → Ends t ps r (rounds_from t ps k (round_start t ps r))
  unfolding rounds_from round_start
  ends zero r h = let b = bits_most t ps (round_start t ps r) in absurd (omega arith)
  ends (suc k) r h = T-cases (is_last t ps (round_start t ps r)) is-last (goes_on (ends k (suc r)))
    where
      rest : ℕ
      rest = rounds_from t ps k (round_from t ps (round_start t ps r))

      is-last : T (is_last t ps (round_start t ps r)) → Ends t ps r (cond (is_last t ps (round_start t ps r)) 1 (suc rest))
      is-last u =
          subst (Ends t ps r) (sym (when_true (is_last t ps (round_start t ps r)) 1 (suc rest) u))
          (record {
            some = omega arith;
            last = λ j e. let z : r ≡ j = omega arith in subst (λ (x : ℕ). T (is_last t ps (round_start t ps x))) z u;
            before = λ j l m. absurd (omega arith);
            in_time = let b = bits_most t ps (round_start t ps r) in omega arith;
          })

      goes_on : (state_bits t ps < k + unknown_bits t ps (round_start t ps (suc r)) → Ends t ps (suc r) rest) → T (not (is_last t ps (round_start t ps r))) → Ends t ps r (cond (is_last t ps (round_start t ps r)) 1 (suc rest))
      goes_on more u =
          let up = rises r u in
          let E = more (omega arith) in
          subst (Ends t ps r) (sym (when_false (is_last t ps (round_start t ps r)) 1 (suc rest) u))
          (record {
            some = omega arith;
            last = λ j e. E.last j (omega arith);
            before = λ j l m. elim (ℕ_discrete r j) [
              | yes z ↦ subst (λ (x : ℕ). T (not (is_last t ps (round_start t ps x)))) z u
              | no d ↦ E.before j (omega arith) (omega arith)
            ];
            in_time = let b = E.in_time in omega arith;
          })

  pub ends-in-time : Ends t ps 0 (rounds_of t ps)
  unfolding rounds_of round_start
  ends-in-time = ends (state_bits t ps + 1) 0 (omega arith)

  -- ---- for a loop that counts rounds: those before round r are not the last

  -- few pairs, so few rounds: room for their count
  few_bits : state_bits t ps ≤ width_limit * row_limit
  few_bits =
      let l = distinct-length (length t.widths) (map (λ p. p.state) ps) (all_map (λ i. i < length t.widths) (λ p. p.state) (λ p F. F.state_in) ps K.fit) K.named_once in
      let b = sum-most (λ p. width_at t.widths p.state) width_limit ps (all-imp (λ p F. (A.table.row_passed p.state F.state_in).width_most) ps K.fit) in
      let m = A.table.rows_most in
      let e = length-map ps (λ p. p.state) in
      omega arith

  module _ (r : ℕ) (b : (j : ℕ) → j < r → T (not (is_last t ps (round_start t ps j)))) where
    pub few-rounds : (r ≤ state_bits t ps) × (state_bits t ps ≤ width_limit * row_limit)
    few-rounds =
        let E = ends-in-time in
        let l = E.in_time in
        elim (dec_lt r (rounds_of t ps)) [
          | yes h ↦ (omega arith, few_bits)
          | no h ↦
              let s = E.some in
              let e : 0 + rounds_of t ps ≡ suc (rounds_of t ps - 1) = omega arith in
              absurd (T_not (is_last t ps (round_start t ps (rounds_of t ps - 1))) (b (rounds_of t ps - 1) (omega arith)) (E.last (rounds_of t ps - 1) e))
        ]

    -- the first that is the last
    pub round-found : T (is_last t ps (round_start t ps r)) → rounds_of t ps ≡ r + 1
    round-found u =
        let E = ends-in-time in
        let s = E.some in
        elim (dec_lt r (rounds_of t ps)) [
          | yes h ↦ elim (ℕ_discrete (rounds_of t ps) (r + 1)) [
            | yes e ↦ e
            | no d ↦ absurd (T_not (is_last t ps (round_start t ps r)) (E.before r (omega arith) (omega arith)) u)
          ]
          | no h ↦
              let e : 0 + rounds_of t ps ≡ suc (rounds_of t ps - 1) = omega arith in
              absurd (T_not (is_last t ps (round_start t ps (rounds_of t ps - 1))) (b (rounds_of t ps - 1) (omega arith)) (E.last (rounds_of t ps - 1) e))
        ]
