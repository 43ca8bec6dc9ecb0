-- `resets::reset_with` meets its contract: a full run on the trial rows tells how the bit ends, then the pass. Assumes nothing.
use native.Mathlib.Omega.{arith}
use mathlib.Core.Path.{sym, ap, ◌∙◌}
use lib.ListN.{get_or}
use Rattle.bits.specs.Bit.{bit}
use Rattle.checks.specs.Table.{State}
use Rattle.checks.specs.Model.{lent}
use Rattle.tables.proofs.Demand3.{start_fits}
use Rattle.steps.proofs.Copies.{copyable}
use Rattle.conclusions.proofs.Answers.{copies-ready, copies-ran, unknown-refused, known-done}
use Rattle.resets.proofs.reset_with.Goals as goal

pub copy_rows-requires : goal.copy_rows-requires
copy_rows-requires c =
    copyable c.args.width.now _ _ _ (start_fits (lent c.args.width.now c.args.lock.now c.args.mask.now c.args.value.now c.args.words.now) c.requires.0.accepted.table) c.requires.1

pub step_all-requires : goal.step_all-requires
step_all-requires c =
    copies-ready (lent c.args.width.now c.args.lock.now c.args.mask.now c.args.value.now c.args.words.now) c.args.row c.args.bit c.requires.0 _ c.copy_rows.ensures

pub bit_at-requires : goal.bit_at-requires
bit_at-requires c = (let P = c.requires.0.in_table in omega (arith, P.at_in, (c.requires.0.accepted.table.row_passed c.args.row P.row_in).width_most))

pub returns-then-bit_at-ne0 : goal.returns-then-bit_at-ne0
returns-then-bit_at-ne0 c =
    unknown-refused (lent c.args.width.now c.args.lock.now c.args.mask.now c.args.value.now c.args.words.now) c.args.row c.args.bit c.requires.0
    (λ z. c.if-bit_at-ne0.true (c.bit_at.ensures ∙ ap (λ (r : State). bit (get_or r.masks c.args.row 0) c.args.bit) (copies-ran (lent c.args.width.now c.args.lock.now c.args.mask.now c.args.value.now c.args.words.now) c.args.row c.args.bit c.requires.0 _ _ c.copy_rows.ensures c.step_all.ensures) ∙ z))

pub bit_at-ends-requires : goal.bit_at-ends-requires
bit_at-ends-requires c = (let P = c.requires.0.in_table in omega (arith, P.at_in, (c.requires.0.accepted.table.row_passed c.args.row P.row_in).width_most))

pub pass-requires : goal.pass-requires
pass-requires c =
    record {
      accepted = c.requires.0.accepted;
      named = c.requires.0.in_table;
      trial_rows = record { masks_length = omega (arith, c.requires.1.masks_length); values_length = omega (arith, c.requires.1.values_length) };
    }

pub returns : goal.returns
returns c =
    known-done (lent c.args.width.now c.args.lock.now c.args.mask.now c.args.value.now c.args.words.now) c.args.row c.args.bit c.requires.0
    (sym (c.bit_at.ensures ∙ ap (λ (r : State). bit (get_or r.masks c.args.row 0) c.args.bit) (copies-ran (lent c.args.width.now c.args.lock.now c.args.mask.now c.args.value.now c.args.words.now) c.args.row c.args.bit c.requires.0 _ _ c.copy_rows.ensures c.step_all.ensures)) ∙ c.if-bit_at-ne0.false)
    c.bit_at-ends.result (c.bit_at-ends.ensures ∙ ap (λ (r : State). bit (get_or r.values c.args.row 0) c.args.bit) (copies-ran (lent c.args.width.now c.args.lock.now c.args.mask.now c.args.value.now c.args.words.now) c.args.row c.args.bit c.requires.0 _ _ c.copy_rows.ensures c.step_all.ensures))
    _ c.pass.ensures
