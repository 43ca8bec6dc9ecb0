-- `table_lines::fill::survey`: what is counted and what is left make up the whole. Assumes nothing.
use mathlib.Core.Path.{refl, ap}
use native.Mathlib.Omega.{arith}
use Rattle.letters.specs.Model.{edition_model}
use Rattle.lines.specs.Model.{line_model}
use Rattle.table_lines.proofs.Surveys.{begin, no_end, outside-line, late-row, more-row, more-record, ended, with-counts}
use Rattle.table_lines.proofs.fill.survey.Goals as goal
use Rattle.table_lines.proofs.fill.survey.Goals.{in-Row+else-records-gt0, in-Record}

pub loop-at-init : goal.loop-at-init
loop-at-init c = (refl, begin (edition_model c.args.e) c.args.first c.args.text.now c.requires.0)

pub end_of-end-requires : goal.end_of-end-requires
end_of-end-requires c = c.loop-at.invariant.1.inside

pub returns-then-end-len : goal.returns-then-end-len
returns-then-end-len c =
    no_end c.loop-at.invariant.1 c.end_of-end.result c.end_of-end.ensures.0 c.loop-at-test.true c.if-end-len.true

pub returns-then-records-gt0 : goal.returns-then-records-gt0
returns-then-records-gt0 c =
    late-row c.loop-at.invariant.1 c.end_of-end.result c.end_of-end.ensures.0 (omega (arith, c.end_of-end.ensures.1, c.if-end-len.false)) (line_model c.line-l.result) c.line-l.ensures _ (ap line_model c.in-Row.is) c.if-records-gt0.true

pub returns-in-Outside : goal.returns-in-Outside
returns-in-Outside c =
    outside-line c.loop-at.invariant.1 c.end_of-end.result c.end_of-end.ensures.0 (omega (arith, c.end_of-end.ensures.1, c.if-end-len.false)) (line_model c.line-l.result) c.line-l.ensures (ap line_model c.in-Outside.is)

pub loop-at-preserved : goal.loop-at-preserved
loop-at-preserved c =
    elim c.match-l.branch [
      | in-Row+else-records-gt0 w ↦ (refl, with-counts c.match-l.rows c.match-l.records w.rows-is w.records-is (more-row c.loop-at.invariant.1 c.end_of-end.result c.end_of-end.ensures.0 (omega (arith, c.end_of-end.ensures.1, c.if-end-len.false)) (line_model c.line-l.result) c.line-l.ensures _ (ap line_model w.in-Row.is) (omega (arith, w.if-records-gt0.false))))
      | in-Record w ↦ (refl, with-counts c.match-l.rows c.match-l.records w.rows-is w.records-is (more-record c.loop-at.invariant.1 c.end_of-end.result c.end_of-end.ensures.0 (omega (arith, c.end_of-end.ensures.1, c.if-end-len.false)) (line_model c.line-l.result) c.line-l.ensures _ (ap line_model w.in-Record.is) refl))
    ]

pub returns : goal.returns
returns c = ended c.loop-at.invariant.1 c.loop-at-test.false
