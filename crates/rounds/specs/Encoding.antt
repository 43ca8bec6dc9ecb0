-- What the code's loops take for granted. Cited by contracts of inner functions alone: no public contract rests on it.
--   PairsReady n ss ns       every pair names rows below n, and no two pairs name one state row
--   WidenReady ran s ss ns   such pairs, and slices of one length for the rows of a run and for the start rows
--   SettleReady t ss ns      settle's checks passed
use Rattle.std.specs.Prelude.{◌≡◌, ◌≢◌, List, ℕ, ◌<◌, length, get_or}
use Rattle.checks.specs.Check.{Passed}
use Rattle.checks.specs.Table.{State, Table, record_count}
use Rattle.checks.specs.Accepted.{Accepted}
use Rattle.rounds.specs.Settle.{pair_checks}

pub record PairsReady (n : ℕ) (ss ns : List ℕ) : Type 0 where
  pub even : length ns ≡ length ss
  pub states_in : (i : ℕ) → i < length ss → get_or ss i 0 < n
  pub nexts_in : (i : ℕ) → i < length ss → get_or ns i 0 < n
  pub named_once : (i j : ℕ) → i < j → j < length ss → get_or ss j 0 ≢ get_or ss i 0

pub record WidenReady (ran s : State) (ss ns : List ℕ) : Type 0 where
  pub run_values : length ran.values ≡ length ran.masks
  pub start_masks : length s.masks ≡ length ran.masks
  pub start_values : length s.values ≡ length ran.masks
  pub pairs : PairsReady (length ran.masks) ss ns

pub record SettleReady (t : Table) (ss ns : List ℕ) : Type 0 where
  pub accepted : Accepted t 0 (record_count t)
  pub paired : Passed (pair_checks t ss ns)
