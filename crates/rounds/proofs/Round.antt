-- One round, from rows that fit: what it leaves, and when it changes nothing. Assumes nothing.
--   FitPair t p    the rows of a pair are in the table and have one width, and no record writes its state row
--   FitPairs t ps  all pairs fit, and no two name one state row
--   unknown_bits t ps s   the unknown bits of the state rows, which every round but the last raises
use mathlib.Core.Path.{◌≡◌, refl, sym, ap, subst}
use mathlib.Core.Bool.{not}
use mathlib.Core.Logic.{◌≢◌, ◌⊎◌}
use mathlib.Core.List.{List, map}
use Prim.Native.Nat.{ℕ, ◌≤◌, ◌<◌}
use native.Mathlib.Decide.{dec_lt}
use native.Mathlib.Omega.{arith}
use lib.Dec.{T, T_not, eqb, eqb→eq}
use lib.ListN.{length, get_or}
use Rattle.bits.proofs.Bools.{T_and, T-left, T-right, eq→eqb}
use Rattle.vectors.specs.Lists.{All, Distinct, sum_of}
use Rattle.vectors.specs.Row.{Row, WellFormed, Covers, unknowns}
use Rattle.vectors.specs.Hull.{Hull, join}
use Rattle.vectors.proofs.Lists.{all-imp, all_both, all-of, all_of-all}
use Rattle.vectors.proofs.Joins.{join-formed}
use Rattle.vectors.proofs.Widened.{inside_both, join-hull, join-left, join-right, inside-unknowns, inside_back}
use Rattle.vectors.proofs.Sums.{sum_lt}
use Rattle.operations.specs.Record.{width_at}
use Rattle.checks.specs.Table.{State, row_at, Table, record_count}
use Rattle.checks.specs.Accepted.{Accepted}
use Rattle.steps.specs.Step.{put_all}
use Rattle.steps.specs.States.{StateFits, CoversState, InsideState}
use Rattle.tables.specs.Run.{effects_at, program_of, full_run}
use Rattle.tables.proofs.Points.{after-fits}
use Rattle.tables.proofs.PutAll.{FitPut, fits_all, others-all, targets-all, covers-all, inside-all, same-all}
use Rattle.tables.proofs.FullRuns.{full-after}
use Rattle.orders.specs.Order.{equal_row}
use Rattle.rounds.specs.Clock.{Pair, widened, widen, unchanged, round_from, is_last, latch}

pub record FitPair (t : Table) (p : Pair) : Type 0 where
  pub state_in : p.state < length t.widths
  pub next_in : p.next < length t.widths
  pub one_width : width_at t.widths p.state ≡ width_at t.widths p.next
  pub not_written : (j : ℕ) → j < record_count t → All (λ e. e.target ≢ p.state) (effects_at t j)

pub record FitPairs (t : Table) (ps : List Pair) : Type 0 where
  pub fit : All (FitPair t) ps
  pub named_once : Distinct (map (λ p. p.state) ps)

unfoldable pub unknown_bits : Table → List Pair → State → ℕ
unknown_bits t ps s = sum_of (λ p. unknowns (row_at t.widths s p.state)) ps

-- a vector joined with another that is not as it was has more unknown bits
join-rises : (p q : Row) → WellFormed p → WellFormed q → p.width ≡ q.width → T (not (equal_row (join p q) p)) → unknowns p < unknowns (join p q)
join-rises p q F G e u =
    elim (dec_lt (unknowns p) (unknowns (join p q))) [
      | yes h ↦ h
      | no h ↦
          let J = join-formed p q F G e in
          let same = inside_both (join p q) p J F refl (inside_back p (join p q) F J refl (join-left p q F G e) (omega arith)) (join-left p q F G e) in
          absurd (T_not (equal_row (join p q) p) u (T_and (eqb (join p q).mask p.mask) _ (eq→eqb (ap (λ (r : Row). r.mask) same)) (eq→eqb (ap (λ (r : Row). r.value) same))))
    ]

module _ (t : Table) (ps : List Pair) (K : FitPairs t ps) where
  -- ---- widening, from any rows that fit

  module _ (ran s : State) (R : StateFits t.widths ran) (S : StateFits t.widths s) where
    abbrev own : Pair → Row
    own p = row_at t.widths s p.state

    abbrev other : Pair → Row
    other p = row_at t.widths ran p.next

    puts-fit : All (λ p. FitPut t.widths p.state (widened t.widths ran s p)) ps
    puts-fit = all-imp (λ p F. record { width_is = refl; formed = join-formed (own p) (other p) (S.formed p.state F.state_in) (R.formed p.next F.next_in) F.one_width }) ps K.fit

    pub widen-fits : StateFits t.widths (widen t.widths ps ran s)
    unfolding widen
    widen-fits = fits_all t.widths (λ p. p.state) (widened t.widths ran s) ps puts-fit s S

    widen-targets : All (λ p. row_at t.widths (widen t.widths ps ran s) p.state ≡ widened t.widths ran s p) ps
    unfolding widen
    widen-targets = targets-all t.widths (λ p. p.state) (widened t.widths ran s) ps puts-fit (all-imp (λ p F. F.state_in) ps K.fit) K.named_once s S

    -- each state row becomes the best vector covering it and its next row
    abbrev Best : Pair → Type 0
    Best p = Hull (width_at t.widths p.state) (λ n. Covers (own p) n ⊎ Covers (other p) n) (row_at t.widths (widen t.widths ps ran s) p.state)

    pub widen-best : All Best ps
    widen-best =
        all_both (λ p F e.
        subst (Hull (width_at t.widths p.state) (λ n. Covers (own p) n ⊎ Covers (other p) n)) (sym e)
        (join-hull (own p) (other p) (S.formed p.state F.state_in) (R.formed p.next F.next_in) F.one_width))
        ps K.fit widen-targets

    pub widen-around : InsideState t.widths s (widen t.widths ps ran s)
    unfolding widen
    widen-around =
        subst (λ (x : State). InsideState t.widths x (put_all (λ p. p.state) (widened t.widths ran s) ps s))
        (same-all t.widths (λ p. p.state) own ps s (all-of (λ p. (refl, refl)) ps))
        (inside-all t.widths (λ p. p.state) own (widened t.widths ran s) ps
        (all-imp (λ p F. record { width_is = refl; formed = S.formed p.state F.state_in }) ps K.fit) puts-fit
        (all-imp (λ p F. join-left (own p) (other p) (S.formed p.state F.state_in) (R.formed p.next F.next_in) F.one_width) ps K.fit) s s S S (λ i h n x. x))

    pub widen-covers : (ns ms : List ℕ) → CoversState t.widths ran ns → CoversState t.widths s ms → CoversState t.widths (widen t.widths ps ran s) (latch ps ns ms)
    unfolding widen latch
    widen-covers ns ms D C =
        covers-all t.widths (λ p. p.state) (widened t.widths ran s) (λ p. get_or ns p.next 0) ps puts-fit
        (all-imp (λ p F. join-right (own p) (other p) (S.formed p.state F.state_in) (R.formed p.next F.next_in) F.one_width (get_or ns p.next 0) (D.covers p.next F.next_in)) ps K.fit)
        s S ms C

    pub widen-rises : T (not (unchanged t.widths ps ran s)) → unknown_bits t ps s < unknown_bits t ps (widen t.widths ps ran s)
    unfolding unchanged unknown_bits
    widen-rises u =
        sum_lt (λ p. equal_row (widened t.widths ran s p) (own p)) (λ p. unknowns (own p)) (λ p. unknowns (row_at t.widths (widen t.widths ps ran s) p.state)) ps
        (all_both (λ p F e.
        subst (λ (r : Row). unknowns (own p) ≤ unknowns r) (sym e)
        (inside-unknowns (own p) (widened t.widths ran s p) (S.formed p.state F.state_in) (formed p F) refl
        (join-left (own p) (other p) (S.formed p.state F.state_in) (R.formed p.next F.next_in) F.one_width)))
        ps K.fit widen-targets)
        (all_both (λ p F e v.
        subst (λ (r : Row). unknowns (own p) < unknowns r) (sym e)
        (join-rises (own p) (other p) (S.formed p.state F.state_in) (R.formed p.next F.next_in) F.one_width v))
        ps K.fit widen-targets)
        u
      where
        formed : (p : Pair) → FitPair t p → WellFormed (widened t.widths ran s p)
        formed p F = join-formed (own p) (other p) (S.formed p.state F.state_in) (R.formed p.next F.next_in) F.one_width

  pub widen-others : (ran s : State) (i : ℕ) → All (λ p. p.state ≢ i) ps → row_at t.widths (widen t.widths ps ran s) i ≡ row_at t.widths s i
  unfolding widen
  widen-others ran s i d = others-all t.widths (λ p. p.state) (widened t.widths ran s) ps s i d

-- where the test says that nothing changes, nothing does
pub last-same : (t : Table) (ps : List Pair) (s : State) → T (is_last t ps s) → round_from t ps s ≡ s
unfolding widen unchanged is_last
last-same t ps s u =
    same-all t.widths (λ p. p.state) (widened t.widths (full_run t s) s) ps s
    (all-imp (λ p v. (
      eqb→eq (widened t.widths (full_run t s) s p).mask (get_or s.masks p.state 0) (T-left (eqb (widened t.widths (full_run t s) s p).mask (get_or s.masks p.state 0)) _ v),
      eqb→eq (widened t.widths (full_run t s) s p).value (get_or s.values p.state 0) (T-right (eqb (widened t.widths (full_run t s) s p).mask (get_or s.masks p.state 0)) _ v),
    )) ps (all_of-all (λ p. equal_row (widened t.widths (full_run t s) s p) (row_at t.widths s p.state)) ps u))

-- a full run leaves rows that fit
pub full-fits : (t : Table) → Accepted t 0 (record_count t) → (s : State) → StateFits t.widths s → StateFits t.widths (full_run t s)
full-fits t A s S = subst (StateFits t.widths) (full-after t A s S) (after-fits (program_of t) 0 s S (record_count t))
