-- `texts::size`, by the verdict of the checks. Assumes nothing.
use mathlib.Core.Path.{ap, ◌∙◌}
use native.Mathlib.Omega.{arith}
use Rattle.checks.specs.Model.{answer_model, in_table}
use Rattle.checks.proofs.VerdictParts.{exit}
use Rattle.texts.proofs.WriteCall.{size-refused, rows_short, records-short, size-done}
use Rattle.texts.proofs.size.Goals as goal

pub rows_length-rows-requires : goal.rows_length-rows-requires
rows_length-rows-requires c =
    let t = in_table c.args.t in
    rows_short t c.check_table.result c.check_table.ensures c.in_ok-check_table.was

pub records_length-records-requires : goal.records_length-records-requires
records_length-records-requires c =
    let t = in_table c.args.t in
    records-short t c.check_table.result c.check_table.ensures c.in_ok-check_table.was

-- all three together are far below the greatest usize
pub overflow_add-result-2 : goal.overflow_add-result-2
overflow_add-result-2 c =
    let t = in_table c.args.t in
    let passed = c.in_ok-check_table.was in
    omega (
      arith,
      (rows_short t c.check_table.result c.check_table.ensures passed).1 c.args.t.mask.now c.args.t.value.now,
      c.rows_length-rows.ensures c.args.t.mask.now c.args.t.value.now,
      (records-short t c.check_table.result c.check_table.ensures passed).1,
      c.records_length-records.ensures,
    )

pub overflow_add-result : goal.overflow_add-result
overflow_add-result c =
    let t = in_table c.args.t in
    let passed = c.in_ok-check_table.was in
    omega (
      arith,
      (rows_short t c.check_table.result c.check_table.ensures passed).1 c.args.t.mask.now c.args.t.value.now,
      c.rows_length-rows.ensures c.args.t.mask.now c.args.t.value.now,
      (records-short t c.check_table.result c.check_table.ensures passed).1,
      c.records_length-records.ensures,
    )

pub returns-in_err-check_table : goal.returns-in_err-check_table
returns-in_err-check_table c =
    let t = in_table c.args.t in
    ap answer_model (exit _ _ c.from_residual.ensures.1) ∙ size-refused t c.check_table.result c.check_table.ensures _ c.in_err-check_table.was

pub returns : goal.returns
returns c =
    let t = in_table c.args.t in
    size-done t c.check_table.result c.check_table.ensures c.in_ok-check_table.was c.rows_length-rows.result c.records_length-records.result (c.rows_length-rows.ensures c.args.t.mask.now c.args.t.value.now) c.records_length-records.ensures
