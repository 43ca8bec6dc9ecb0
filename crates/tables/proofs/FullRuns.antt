-- Full runs from rows that fit, of a table that run accepts. Assumes nothing.
use mathlib.Core.Path.{◌≡◌, sym, ap, ◌∙◌}
use Prim.Native.Nat.{ℕ}
use native.Mathlib.Nat.{sub-zero}
use native.Mathlib.Omega.{arith}
use Rattle.checks.specs.Table.{State, Table, with_rows, record_count}
use Rattle.checks.specs.Accepted.{Accepted}
use Rattle.steps.specs.Step.{after}
use Rattle.tables.specs.Run.{program_of, full_run}
use Rattle.tables.specs.Encoding.{StretchReady}
use Rattle.tables.specs.Demand.{Demand3}
use Rattle.steps.specs.States.{StateFits}
use Rattle.tables.proofs.Demand3.{accepted-with, at-point, demand3}
use Rattle.tables.proofs.StretchLaws.{stretch-ready}

module _ (t : Table) (A : Accepted t 0 (record_count t)) (s : State) (S : StateFits t.widths s) where
  pub accepted-from : Accepted (with_rows t s) 0 (record_count t)
  accepted-from = accepted-with t 0 (record_count t) A s S (record_count t) (omega arith) (omega arith)

  pub full-demand3 : Demand3 (with_rows t s) 0 (record_count t) (full_run t s)
  full-demand3 = demand3 (with_rows t s) 0 (record_count t) accepted-from

  -- for code that steps through all words
  pub full-ready : StretchReady t.widths s t.words
  full-ready = stretch-ready t A.table s S t.words A.table.record_passed

  pub full-after : after (program_of t) 0 (record_count t) s ≡ full_run t s
  full-after = sym (at-point t 0 (record_count t) A s S (record_count t) (omega arith) (omega arith) ∙ ap (λ (n : ℕ). after (program_of t) 0 n s) (sub-zero (record_count t)))
