-- The refusals of run, of reset_bits, of settle, of compare_states, of prune, of witnesses and of range have numbers from 1 on. Assumes nothing.
use mathlib.Core.Path.{◌≡◌}
use mathlib.Core.List.{List, ◌++◌}
use Prim.Native.Nat.{ℕ, ◌≤◌}
use lib.Dec.{T, leb, leb→le}
use lib.ListN.{length}
use Rattle.operations.specs.Record.{width_at}
use Rattle.operations.specs.Faults.{record_faults, lock_fault}
use Rattle.checks.specs.Check.{refused, verdict, placed}
use Rattle.checks.specs.Checks.{row_faults_at, bit_faults, row_named_faults, row_checks, open_checks, run_checks}
use Rattle.checks.specs.Model.{judged}
use Rattle.checks.specs.Table.{State, Table, record_count, record_of}
use Rattle.checks.proofs.Numbered.{numbered, numbered-append, numbered-rising, refused-number}
use Rattle.range_search.specs.Range.{range_in}
use Rattle.vectors.specs.Row.{row}
use Rattle.conclusions.specs.Reset.{value_of, unknown_faults, naming_checks, reset_checks}
use Rattle.orders.specs.Order.{order_of, compare_shape_faults, compare_row_faults, compare_row_checks, compare_checks, compare_of}
use Rattle.rounds.specs.Clock.{pairs_of, rounds_of}
use Rattle.rounds.specs.Settle.{uneven_faults, pair_faults, each_pair_checks, pair_checks, settle_checks}
use Rattle.needs.specs.Needs.{kept_of}
use Rattle.needs.specs.Prune.{mark_faults, prune_checks}
use Rattle.vector_calls.specs.Witnesses.{witness_checks}
use Rattle.vector_calls.specs.Ranges.{range_checks, range_of}

rows-numbered : (t : Table) → T (numbered (leb 1) (row_checks t))
rows-numbered t = numbered-rising (leb 1) (λ i. placed i (row_faults_at t i)) (λ i. tt) 0 (length t.widths)

module _ (t : Table) (first last : ℕ) where
  records-numbered : (i : ℕ) → T (numbered (leb 1) (placed i (record_faults t.widths (record_of t i)) ++ placed i (lock_fault t.locks (record_of t i))))
  unfolding record_faults lock_fault
  records-numbered i = tt

  run-numbered : T (numbered (leb 1) (run_checks t first last))
  unfolding run_checks
  run-numbered = numbered-append (leb 1) (row_checks t) (open_checks t) (rows-numbered t) (numbered-rising (leb 1) _ records-numbered 0 (record_count t))

  pub run-refused : (n i : ℕ) → verdict (run_checks t first last) last ≡ refused n i → 1 ≤ n
  run-refused n i e = leb→le 1 n (refused-number (leb 1) (run_checks t first last) last n i run-numbered e)

module _ (t : Table) (i k : ℕ) where
  reset-numbered : T (numbered (leb 1) (reset_checks t i k))
  unfolding reset_checks naming_checks
  reset-numbered =
      numbered-append (leb 1) (naming_checks t i k) (placed 0 (unknown_faults t i k))
      (numbered-append (leb 1) (run_checks t 0 (record_count t)) (placed i (row_named_faults t i) ++ placed 0 (bit_faults (width_at t.widths i) k)) (run-numbered t 0 (record_count t)) tt) tt

  pub reset-refused : (n j : ℕ) → verdict (reset_checks t i k) (value_of t i k) ≡ refused n j → 1 ≤ n
  reset-refused n j e = leb→le 1 n (refused-number (leb 1) (reset_checks t i k) (value_of t i k) n j reset-numbered e)

module _ (t : Table) (ss ns : List ℕ) where
  settle-numbered : T (numbered (leb 1) (settle_checks t ss ns))
  unfolding settle_checks pair_checks
  settle-numbered =
      numbered-append (leb 1) (run_checks t 0 (record_count t)) (pair_checks t ss ns) (run-numbered t 0 (record_count t))
      (numbered-append (leb 1) (placed 0 (uneven_faults ss ns)) (each_pair_checks t ss ns) tt (numbered-rising (leb 1) (λ i. placed 0 (pair_faults t ss ns i)) (λ i. tt) 0 (length ss)))

  pub settle-refused : (n j : ℕ) → verdict (settle_checks t ss ns) (rounds_of t (pairs_of ss ns)) ≡ refused n j → 1 ≤ n
  settle-refused n j e = leb→le 1 n (refused-number (leb 1) (settle_checks t ss ns) (rounds_of t (pairs_of ss ns)) n j settle-numbered e)

module _ (widths : List ℕ) (p q : State) where
  compare-numbered : T (numbered (leb 1) (compare_checks widths p q))
  unfolding compare_checks
  compare-numbered =
      numbered-append (leb 1) (placed 0 (compare_shape_faults widths p q)) (compare_row_checks widths p q) tt
      (numbered-rising (leb 1) (λ i. placed i (compare_row_faults widths p q i)) (λ i. tt) 0 (length widths))

  pub compare-refused : (n j : ℕ) → compare_of widths p q ≡ refused n j → 1 ≤ n
  unfolding compare_of
  compare-refused n j e = leb→le 1 n (refused-number (leb 1) (compare_checks widths p q) (order_of widths p q) n j compare-numbered e)

module _ (t : Table) (marks : List ℕ) where
  prune-numbered : T (numbered (leb 1) (prune_checks t marks))
  unfolding prune_checks
  prune-numbered = numbered-append (leb 1) (run_checks t 0 (record_count t)) (placed 0 (mark_faults (length t.widths) marks)) (run-numbered t 0 (record_count t)) tt

  pub prune-refused : (n j : ℕ) → verdict (prune_checks t marks) (length (kept_of t marks)) ≡ refused n j → 1 ≤ n
  prune-refused n j e = leb→le 1 n (refused-number (leb 1) (prune_checks t marks) (length (kept_of t marks)) n j prune-numbered e)

module _ (kind w ma va mb vb k : ℕ) where
  witness-numbered : T (numbered (leb 1) (witness_checks kind w ma va mb vb k))
  unfolding witness_checks
  witness-numbered = tt

  pub witness-refused : (n i : ℕ) → judged (witness_checks kind w ma va mb vb k) ≡ refused n i → 1 ≤ n
  witness-refused n i e = leb→le 1 n (refused-number (leb 1) (witness_checks kind w ma va mb vb k) tt n i witness-numbered e)

module _ (w m v low high : ℕ) where
  range-numbered : T (numbered (leb 1) (range_checks w m v low high))
  unfolding range_checks
  range-numbered = tt

  pub range-refused : (n i : ℕ) → range_of w m v low high ≡ refused n i → 1 ≤ n
  unfolding range_of
  range-refused n i e = leb→le 1 n (refused-number (leb 1) (range_checks w m v low high) (range_in (row w m v) low high) n i range-numbered e)
