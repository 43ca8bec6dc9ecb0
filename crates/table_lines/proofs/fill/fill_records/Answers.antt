-- `table_lines::fill::fill_records`: the words of the records passed are in the slice, and the rest is still to come. Assumes nothing.
use mathlib.Core.Path.{refl, ap}
use native.Mathlib.Omega.{arith}
use Rattle.letters.specs.Model.{edition_model}
use Rattle.lines.specs.Model.{line_model}
use Rattle.table_lines.proofs.FillRecords.{begin, ends-in, no_row, no-outside, more, done, room}
use Rattle.table_lines.proofs.fill.fill_records.Goals as goal

pub loop-k-init : goal.loop-k-init
loop-k-init c = begin (edition_model c.args.e) c.args.text.now c.args.from c.args.n c.args.words.now c.requires

pub end_of-end-requires : goal.end_of-end-requires
end_of-end-requires c = c.loop-k.invariant.inside

pub slice_bounds-line-end : goal.slice_bounds-line-end
slice_bounds-line-end c = omega (arith, c.end_of-end.ensures.1)

pub returns-in-Row : goal.returns-in-Row
returns-in-Row c =
    absurd (no_row c.loop-k.invariant c.end_of-end.result c.end_of-end.ensures.0 c.loop-k-test.true (line_model c.line-f.result) c.line-f.ensures _ (ap line_model c.in-Row.is))

pub put_words-i-requires : goal.put_words-i-requires
put_words-i-requires c =
    room c.loop-k.invariant c.loop-k-test.true c.requires.words_hold

pub returns-in-Outside : goal.returns-in-Outside
returns-in-Outside c =
    absurd (no-outside c.loop-k.invariant c.end_of-end.result c.end_of-end.ensures.0 c.loop-k-test.true (line_model c.line-f.result) c.line-f.ensures (ap line_model c.in-Outside.is))

pub overflow_add-at : goal.overflow_add-at
overflow_add-at c =
    omega (arith, ends-in c.loop-k.invariant c.end_of-end.result c.end_of-end.ensures.0 c.loop-k-test.true)

pub loop-k-preserved : goal.loop-k-preserved
loop-k-preserved c =
    more c.loop-k.invariant c.end_of-end.result c.end_of-end.ensures.0 c.loop-k-test.true (line_model c.line-f.result) c.line-f.ensures _ refl (ap line_model c.in-Record.is) c.put_words-i.ensures

pub returns : goal.returns
returns c = done c.loop-k.invariant c.loop-k-test.false
