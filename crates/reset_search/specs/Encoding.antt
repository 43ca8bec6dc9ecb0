-- What the code of the pass takes for granted. Cited by contracts of inner functions alone: no public contract rests on it.
--   TrialReady widths s words c tm tv   what a trial asks: records that can be stepped through from the rows s, the conclusion's bit, rows for trials
--   PassReady t c tm tv          what the pass asks: a full run that is accepted, the conclusion's bit, rows for trials
use Rattle.std.specs.Prelude.{List, ℕ}
use Rattle.checks.specs.Table.{State, Table, record_count}
use Rattle.checks.specs.Accepted.{Accepted}
use Rattle.tables.specs.Encoding.{StretchReady}
use Rattle.conclusions.specs.declared.Conclusion.{Conclusion}
use Rattle.steps.specs.Encoding.{OwnRows}
use Rattle.conclusions.specs.Encoding.{InTable}

pub record TrialReady (widths : List ℕ) (s : State) (words : List ℕ) (c : Conclusion) (tm tv : List ℕ) : Type 0 where
  pub steps : StretchReady widths s words
  pub named : InTable widths c.row c.at
  pub trial_rows : OwnRows widths tm tv

pub record PassReady (t : Table) (c : Conclusion) (tm tv : List ℕ) : Type 0 where
  pub accepted : Accepted t 0 (record_count t)
  pub named : InTable t.widths c.row c.at
  pub trial_rows : OwnRows t.widths tm tv
