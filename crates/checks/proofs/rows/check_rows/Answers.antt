-- `checks::rows::check_rows` meets its contract. The invariant: the verdict on all rows is that on the rows from i on. Assumes nothing.
use mathlib.Core.Path.{sym, ap, ◌∙◌}
use mathlib.Core.List.{List}
use Prim.Native.Nat.{ℕ}
use lib.ListN.{length}
use Rattle.checks.specs.declared.table.Table.{Table as TableLent}
use Rattle.checks.specs.Check.{Check, placed}
use Rattle.checks.specs.Checks.{row_faults_at}
use Rattle.checks.specs.Model.{in_table, verdict_model}
use Rattle.checks.proofs.VerdictParts.{exit, rest-start, rest_end, turn-stops, turn-goes-on}
use native.Mathlib.Omega.{arith}
use Rattle.checks.proofs.rows.check_rows.Goals as goal

abbrev faults : TableLent → ℕ → List Check
faults t i = placed i (row_faults_at (in_table t) i)

pub loop-i-init : goal.loop-i-init
loop-i-init c = (omega arith, rest-start (faults c.args.t) (length c.args.t.width.now))

pub returns-in_err-check_row : goal.returns-in_err-check_row
returns-in_err-check_row c =
    ap verdict_model (exit _ _ c.from_residual.ensures.1)
    ∙ sym (c.loop-i.invariant.1 ∙ turn-stops (faults c.args.t) (length c.args.t.width.now) c.loop-i.i c.loop-i-test.true c.check_row.result c.check_row.ensures _ c.in_err-check_row.was)

pub loop-i-preserved : goal.loop-i-preserved
loop-i-preserved c = (
  omega arith,
  c.loop-i.invariant.1 ∙ turn-goes-on (faults c.args.t) (length c.args.t.width.now) c.loop-i.i c.loop-i-test.true c.check_row.result c.check_row.ensures c.in_ok-check_row.was,
)

pub returns : goal.returns
returns c = sym (c.loop-i.invariant.1 ∙ rest_end (faults c.args.t) (length c.args.t.width.now) c.loop-i.i c.loop-i-test.false)
