-- `table_lines::fill::fill_rows`: the rows passed are in the slices, and the rest is still to come. Assumes nothing.
use mathlib.Core.Path.{ap}
use native.Mathlib.Omega.{arith}
use Rattle.letters.specs.Model.{edition_model}
use Rattle.lines.specs.Model.{line_model}
use Rattle.table_lines.proofs.FillRows.{begin, lengths, ends-in, no_record, no-outside, more, done}
use Rattle.table_lines.proofs.RowBytes.{bytes_fit}
use Rattle.table_lines.proofs.fill.fill_rows.Goals as goal

pub loop-k-init : goal.loop-k-init
loop-k-init c =
    (begin (edition_model c.args.e) c.args.text.now c.args.n c.args.width.now c.args.lock.now c.args.mask.now c.args.value.now c.requires, omega arith)

pub end_of-end-requires : goal.end_of-end-requires
end_of-end-requires c = c.loop-k.invariant.0.inside

pub slice_bounds-line-end : goal.slice_bounds-line-end
slice_bounds-line-end c = omega (arith, c.end_of-end.ensures.1)

pub overflow_cast-width : goal.overflow_cast-width
overflow_cast-width c =
    omega (arith, bytes_fit _ _ (line_model c.line-f.result) c.line-f.ensures _ (ap line_model c.in-Row.is))

pub bounds-width-k : goal.bounds-width-k
bounds-width-k c =
    omega (arith, c.loop-k-test.true, c.requires.widths_hold, lengths c.loop-k.invariant.0)

pub overflow_cast-lock : goal.overflow_cast-lock
overflow_cast-lock c =
    omega (arith, bytes_fit _ _ (line_model c.line-f.result) c.line-f.ensures _ (ap line_model c.in-Row.is))

pub bounds-lock-k : goal.bounds-lock-k
bounds-lock-k c =
    omega (arith, c.loop-k-test.true, c.requires.locks_hold, lengths c.loop-k.invariant.0)

pub bounds-mask-k : goal.bounds-mask-k
bounds-mask-k c =
    omega (arith, c.loop-k-test.true, c.requires.masks_hold, lengths c.loop-k.invariant.0)

pub bounds-value-k : goal.bounds-value-k
bounds-value-k c =
    omega (arith, c.loop-k-test.true, c.requires.values_hold, lengths c.loop-k.invariant.0)

pub returns-in-Record : goal.returns-in-Record
returns-in-Record c =
    absurd (no_record c.loop-k.invariant.0 c.end_of-end.result c.end_of-end.ensures.0 (omega (arith, c.loop-k-test.true, c.requires.count)) (line_model c.line-f.result) c.line-f.ensures _ (ap line_model c.in-Record.is))

pub returns-in-Outside : goal.returns-in-Outside
returns-in-Outside c =
    absurd (no-outside c.loop-k.invariant.0 c.end_of-end.result c.end_of-end.ensures.0 (omega (arith, c.loop-k-test.true, c.requires.count)) (line_model c.line-f.result) c.line-f.ensures (ap line_model c.in-Outside.is))

pub overflow_add-at : goal.overflow_add-at
overflow_add-at c =
    omega (arith, ends-in c.loop-k.invariant.0 c.end_of-end.result c.end_of-end.ensures.0 (omega (arith, c.loop-k-test.true, c.requires.count)))

pub loop-k-preserved : goal.loop-k-preserved
loop-k-preserved c =
    (more c.loop-k.invariant.0 c.end_of-end.result c.end_of-end.ensures.0 (omega (arith, c.loop-k-test.true, c.requires.count)) (line_model c.line-f.result) c.line-f.ensures _ (ap line_model c.in-Row.is), omega arith)

pub returns : goal.returns
returns c = done c.loop-k.invariant.0 (omega (arith, c.requires.count))
