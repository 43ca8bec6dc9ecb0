-- `reset_search::keeps` meets its contract: a trial, step by step. Assumes nothing.
use mathlib.Core.Path.{◌∙◌}
use Rattle.checks.specs.Model.{lent}
use Rattle.steps.proofs.Copies.{copyable}
use Rattle.reset_search.proofs.Trials.{bit-of-word, row_room, trial-steps, trial-test}
use Rattle.reset_search.proofs.keeps.Goals as goal

pub copy_rows-requires : goal.copy_rows-requires
copy_rows-requires c = copyable c.args.width.now _ _ _ c.requires.0.steps.fits c.requires.0.trial_rows

pub forget-requires : goal.forget-requires
forget-requires c =
    let a = c.args in
    let R = c.requires.0.steps in
    let P = c.requires.1 in
    let room = row_room a.width.now _ a.words.now R _ c.copy_rows.ensures a.i P.row_in in
    (room.0, room.1, bit-of-word a.width.now _ a.words.now R a.i a.k P)

pub step_all-requires : goal.step_all-requires
step_all-requires c =
    let a = c.args in
    trial-steps a.width.now _ a.words.now c.requires.0.steps a.i a.k c.requires.1 _ _ c.copy_rows.ensures (c.forget.ensures a.width.now)

pub holds-requires : goal.holds-requires
holds-requires c =
    bit-of-word c.args.width.now _ c.args.words.now c.requires.0.steps c.args.c.row c.args.c.at c.requires.0.named

pub returns : goal.returns
returns c locks A =
    let a = c.args in
    c.holds.ensures
    ∙ trial-test (lent a.width.now locks a.mask.now a.value.now a.words.now) A a.c a.i a.k c.requires.1 _ _ _ c.copy_rows.ensures (c.forget.ensures a.width.now) c.step_all.ensures
