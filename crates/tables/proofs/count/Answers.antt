-- `tables::count` meets its contract: the checks, then the ones of the mask. Assumes nothing.
use mathlib.Core.Path.{sym, ap, ◌∙◌}
use native.Mathlib.Omega.{arith}
use Rattle.checks.specs.Checks.{count_checks}
use Rattle.checks.specs.Model.{in_table, answer_model, verdict_model}
use Rattle.checks.proofs.Verdicts.{refused-any}
use Rattle.checks.proofs.VerdictParts.{exit}
use Rattle.table_checks.proofs.Counts.{row_in, row-slices}
use Rattle.tables.specs.Run.{count_of}
use Rattle.tables.proofs.Counts.{count_small, count-is}
use Rattle.tables.proofs.count.Goals as goal

pub offset_bounds-t-row : goal.offset_bounds-t-row
offset_bounds-t-row c =
    omega (
      arith,
      row_in (in_table c.args.t) c.args.row (sym c.check_count.ensures ∙ ap verdict_model c.in_ok-check_count.was),
      (row-slices (in_table c.args.t) c.args.row (sym c.check_count.ensures ∙ ap verdict_model c.in_ok-check_count.was)).0,
    )

pub bounds-t-row : goal.bounds-t-row
bounds-t-row c =
    omega (
      arith,
      row_in (in_table c.args.t) c.args.row (sym c.check_count.ensures ∙ ap verdict_model c.in_ok-check_count.was),
      (row-slices (in_table c.args.t) c.args.row (sym c.check_count.ensures ∙ ap verdict_model c.in_ok-check_count.was)).1.masks_length,
    )

pub overflow_cast-result : goal.overflow_cast-result
overflow_cast-result c =
    omega (
      arith,
      count_small (in_table c.args.t) c.args.row (sym c.check_count.ensures ∙ ap verdict_model c.in_ok-check_count.was),
    )

pub overflow_shl-result : goal.overflow_shl-result
overflow_shl-result c =
    omega (
      arith,
      count_small (in_table c.args.t) c.args.row (sym c.check_count.ensures ∙ ap verdict_model c.in_ok-check_count.was),
    )

pub returns-in_err-check_count : goal.returns-in_err-check_count
unfolding count_of
returns-in_err-check_count c =
    let a = c.args in
    let t = in_table a.t in
    ap answer_model (exit _ _ c.from_residual.ensures.1) ∙ sym (refused-any (count_checks t a.row) tt _ _ _ (sym c.check_count.ensures ∙ ap verdict_model c.in_err-check_count.was))

pub returns : goal.returns
returns c = count-is (in_table c.args.t) c.args.row (sym c.check_count.ensures ∙ ap verdict_model c.in_ok-check_count.was)
