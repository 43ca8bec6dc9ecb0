-- `checks::records::check_records` meets its contract. The invariant: the verdict on all records is that on the records from i on. Assumes nothing.
use mathlib.Core.Path.{sym, ap, ◌∙◌}
use Prim.Native.Nat.{◌/◌}
use native.Mathlib.Omega.{arith}
use lib.ListN.{length}
use Rattle.operations.specs.Limits.{record_words}
use Rattle.checks.specs.Model.{in_table, verdict_model}
use Rattle.checks.specs.Encoding.{record_with}
use Rattle.checks.proofs.VerdictParts.{exit, rest-start, rest_end, turn-stops, turn-goes-on}
use Rattle.checks.proofs.records.check_records.Goals as goal

pub loop-i-init : goal.loop-i-init
loop-i-init c = (omega arith, rest-start (record_with c.args.locked (in_table c.args.t)) (length c.args.t.words.now / record_words))

pub returns-in_err-check_one : goal.returns-in_err-check_one
returns-in_err-check_one c =
    ap verdict_model (exit _ _ c.from_residual.ensures.1)
    ∙ sym (c.loop-i.invariant.1 ∙ turn-stops (record_with c.args.locked (in_table c.args.t)) (length c.args.t.words.now / record_words) c.loop-i.i c.loop-i-test.true c.check_one.result c.check_one.ensures _ c.in_err-check_one.was)

pub loop-i-preserved : goal.loop-i-preserved
loop-i-preserved c = (
  omega arith,
  c.loop-i.invariant.1 ∙ turn-goes-on (record_with c.args.locked (in_table c.args.t)) (length c.args.t.words.now / record_words) c.loop-i.i c.loop-i-test.true c.check_one.result c.check_one.ensures c.in_ok-check_one.was,
)

pub returns : goal.returns
returns c = sym (c.loop-i.invariant.1 ∙ rest_end (record_with c.args.locked (in_table c.args.t)) (length c.args.t.words.now / record_words) c.loop-i.i c.loop-i-test.false)
