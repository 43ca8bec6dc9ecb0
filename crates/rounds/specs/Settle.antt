-- Clock after clock until it settles (02, request 12): what settle refuses, answers and leaves, and what is claimed of it.
--   pairs_uneven, state_outside, next_outside, widths_differ, state_twice, state_locked, state_written   the conditions of 20
--   written_row t i              row i is a record's target, or in a store's span
--   uneven_faults ss ns          20 of the two lists;   pair_faults t ss ns i   20 of pair i;   pair_checks t ss ns   of all pairs
--   settle_checks t ss ns        what settle refuses, in order;   settle_of t ss ns   what it answers and leaves
--   Settles t ps rounds rows    the claim, of the number of rounds answered and the rows left
use Rattle.std.specs.Prelude.{◌≡◌, ◌≢◌, ◌⊎◌, Bool, not, List, [], ◌∷◌, ◌++◌, ℕ, suc, ◌+◌, ◌-◌, ◌≤◌, ◌<◌, eqb, length, get_or}
use Rattle.bits.specs.Below.{some_below}
use Rattle.bits.specs.Counted.{rising}
use Rattle.vectors.specs.Lists.{All, some_of}
use Rattle.vectors.specs.Row.{Covers}
use Rattle.vectors.specs.Hull.{Hull}
use Rattle.operations.specs.Record.{width_at, target_rows}
use Rattle.operations.specs.Faults.{Fault, fault}
use Rattle.checks.specs.Check.{done, leaving, Check, verdict, placed}
use Rattle.checks.specs.Table.{State, row_at, Table, start_of, with_rows, record_count, record_of}
use Rattle.checks.specs.Checks.{row_outside, run_checks}
use Rattle.steps.specs.States.{CoversState, InsideState}
use Rattle.tables.specs.Run.{Ran, run_of, point_rows, full_run, plain_run}
use Rattle.rounds.specs.Clock.{Pair, pairs_of, state_bits, round_start, rounds_of, last_start, plain_clocks}

-- ---- 20: "pair lists of unequal length, a pair outside the table or with unequal widths, a state row named twice, or one that is locked, is a record's target
-- or is in a store's span"

abbrev pub pairs_uneven : List ℕ → List ℕ → Bool
pairs_uneven ss ns = not (eqb (length ns) (length ss))

abbrev pub state_outside : Table → List ℕ → ℕ → Bool
state_outside t ss i = row_outside t (get_or ss i 0)

abbrev pub next_outside : Table → List ℕ → ℕ → Bool
next_outside t ns i = row_outside t (get_or ns i 0)

abbrev pub widths_differ : Table → List ℕ → List ℕ → ℕ → Bool
widths_differ t ss ns i = not (eqb (width_at t.widths (get_or ss i 0)) (width_at t.widths (get_or ns i 0)))

-- an earlier pair names the same state row
abbrev pub state_twice : List ℕ → ℕ → Bool
state_twice ss i = some_below i (λ j. eqb (get_or ss j 0) (get_or ss i 0))

abbrev pub state_locked : Table → List ℕ → ℕ → Bool
state_locked t ss i = eqb (get_or t.locks (get_or ss i 0) 0) 1

-- of a store every row of its span, whatever its address can be, and not its word t
unfoldable pub written_row : Table → ℕ → Bool
written_row t i = some_below (record_count t) (λ k. some_of (λ j. eqb j i) (target_rows (record_of t k)))

abbrev pub state_written : Table → List ℕ → ℕ → Bool
state_written t ss i = written_row t (get_or ss i 0)

abbrev pub uneven_faults : List ℕ → List ℕ → List Fault
uneven_faults ss ns = fault (pairs_uneven ss ns) 20 ∷ []

abbrev pub pair_faults : Table → List ℕ → List ℕ → ℕ → List Fault
pair_faults t ss ns i =
    fault (state_outside t ss i) 20
    ∷ fault (next_outside t ns i) 20
    ∷ fault (widths_differ t ss ns i) 20
    ∷ fault (state_twice ss i) 20
    ∷ fault (state_locked t ss i) 20
    ∷ fault (state_written t ss i) 20
    ∷ []

abbrev pub each_pair_checks : Table → List ℕ → List ℕ → List Check
each_pair_checks t ss ns = rising (λ i. placed 0 (pair_faults t ss ns i)) 0 (length ss)

unfoldable pub pair_checks : Table → List ℕ → List ℕ → List Check
pair_checks t ss ns = placed 0 (uneven_faults ss ns) ++ each_pair_checks t ss ns

-- "It refuses as 20, after 10"
unfoldable pub settle_checks : Table → List ℕ → List ℕ → List Check
settle_checks t ss ns = run_checks t 0 (record_count t) ++ pair_checks t ss ns

-- ---- the call: "The rows hold that last round", and "the answer, the number of rounds"

unfoldable pub settle_of : Table → List ℕ → List ℕ → Ran
settle_of t ss ns = leaving (verdict (settle_checks t ss ns) (rounds_of t (pairs_of ss ns))) (start_of t) (full_run t (last_start t (pairs_of ss ns)))

-- ---- the claim

-- some_round, bound: the last round counts, and the rounds are at most the state bits plus one.  accepted: each round's run is accepted.
-- others_start: each round starts non-state rows from their start.  best_widening: each round widens each state row to the best vector covering it and its next row.
-- rising: each round's rows lie inside the next round's.  earlier_change, no_change: each round but the last changes a state row, and the last changes none.
-- end, state_rows: the rows left are those of the last round's run, which leaves the state rows as they were.
-- covered: whatever numbers the start rows covered at each clock, of state rows at the first alone, at every point of every plain clock each number is covered by its
-- row of the last round at that point.
pub record Settles (t : Table) (ps : List Pair) (rounds : ℕ) (rows : State) : Type 0 where
  pub some_round : 1 ≤ rounds
  pub bound : rounds ≤ state_bits t ps + 1
  pub accepted : (m : ℕ) → m < rounds → (run_of (with_rows t (round_start t ps m)) 0 (record_count t)).answer ≡ done (record_count t)
  pub others_start : (m : ℕ) → m < rounds → (i : ℕ) → All (λ p. p.state ≢ i) ps → row_at t.widths (round_start t ps m) i ≡ row_at t.widths (start_of t) i
  pub best_widening : (m : ℕ) → m < rounds
      → All (λ p. Hull (width_at t.widths p.state)
      (λ n. Covers (row_at t.widths (round_start t ps m) p.state) n ⊎ Covers (row_at t.widths (full_run t (round_start t ps m)) p.next) n)
      (row_at t.widths (round_start t ps (suc m)) p.state)) ps
  pub rising : (m : ℕ) → m < rounds → InsideState t.widths (round_start t ps m) (round_start t ps (suc m))
  pub earlier_change : (m : ℕ) → suc m < rounds → round_start t ps (suc m) ≢ round_start t ps m
  pub no_change : round_start t ps rounds ≡ round_start t ps (rounds - 1)
  pub end : rows ≡ full_run t (round_start t ps (rounds - 1))
  pub state_rows : All (λ p. row_at t.widths rows p.state ≡ row_at t.widths (round_start t ps (rounds - 1)) p.state) ps
  pub covered : (inputs : ℕ → List ℕ) → ((m : ℕ) → CoversState t.widths (start_of t) (inputs m)) → (m s : ℕ) → s ≤ record_count t
      → CoversState t.widths (point_rows (with_rows t (round_start t ps (rounds - 1))) 0 s) (plain_run t 0 s (plain_clocks t ps inputs m))
