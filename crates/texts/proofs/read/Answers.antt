-- `texts::read`: the checks in their order, then the two fills. Assumes nothing.
use native.Mathlib.Omega.{arith}
use mathlib.Core.Path.{ap, ◌∙◌}
use Rattle.std.specs.Prelude.{Result}
use Rattle.checks.specs.declared.refusals.Refusal.{Refusal}
use Rattle.checks.specs.Model.{lent}
use Rattle.texts.specs.declared.Counts.{Counts}
use Rattle.texts.specs.Model.{read_left}
use Rattle.texts.proofs.Bodies.{survey-waits, body-inside}
use Rattle.texts.proofs.ReadCall.{refuse-locks, refuse-masks, refuse-values, refuse-length, refuse-line, refuse-rows, refuse-words, rows-wait, records-wait, accept}
use Rattle.texts.proofs.read.Goals as goal

pub returns-then-lock-n : goal.returns-then-lock-n
returns-then-lock-n c =
    let slices = lent c.args.width.now c.args.lock.now c.args.mask.now c.args.value.now c.args.words.now in
    ap (λ (r : Result Counts Refusal). read_left r slices) c.refused.ensures ∙ refuse-locks c.args.text.now slices c.if-lock-n.true

pub returns-then-mask-n : goal.returns-then-mask-n
returns-then-mask-n c =
    let slices = lent c.args.width.now c.args.lock.now c.args.mask.now c.args.value.now c.args.words.now in
    ap (λ (r : Result Counts Refusal). read_left r slices) c.refused-then-mask-n.ensures ∙ refuse-masks c.args.text.now slices c.if-lock-n.false c.if-mask-n.true

pub returns-then-value-n : goal.returns-then-value-n
returns-then-value-n c =
    let slices = lent c.args.width.now c.args.lock.now c.args.mask.now c.args.value.now c.args.words.now in
    ap (λ (r : Result Counts Refusal). read_left r slices) c.refused-then-value-n.ensures ∙ refuse-values c.args.text.now slices c.if-lock-n.false c.if-mask-n.false c.if-value-n.true

pub returns-then-text-gt-TEXT_LIMIT : goal.returns-then-text-gt-TEXT_LIMIT
returns-then-text-gt-TEXT_LIMIT c =
    let slices = lent c.args.width.now c.args.lock.now c.args.mask.now c.args.value.now c.args.words.now in
    ap (λ (r : Result Counts Refusal). read_left r slices) c.refused-then-text-gt-TEXT_LIMIT.ensures ∙ refuse-length c.args.text.now slices c.if-lock-n.false c.if-mask-n.false c.if-value-n.false c.if-text-gt-TEXT_LIMIT.true

pub slice_bounds-body-count : goal.slice_bounds-body-count
slice_bounds-body-count c =
    omega (arith, body-inside c.args.text.now c.opening_of-o.result c.opening_of-o.ensures)

pub slice_bounds-body-start : goal.slice_bounds-body-start
slice_bounds-body-start c =
    omega (arith, body-inside c.args.text.now c.opening_of-o.result c.opening_of-o.ensures)

pub survey-s-requires : goal.survey-s-requires
survey-s-requires c =
    survey-waits c.args.text.now c.opening_of-o.result c.opening_of-o.ensures c.if-text-gt-TEXT_LIMIT.false

pub returns-then-bad-ne0 : goal.returns-then-bad-ne0
returns-then-bad-ne0 c =
    let slices = lent c.args.width.now c.args.lock.now c.args.mask.now c.args.value.now c.args.words.now in
    ap (λ (r : Result Counts Refusal). read_left r slices) c.refused-then-bad-ne0.ensures ∙ refuse-line c.args.text.now slices c.if-lock-n.false c.if-mask-n.false c.if-value-n.false c.if-text-gt-TEXT_LIMIT.false c.opening_of-o.result c.opening_of-o.ensures c.survey-s.result.rows c.survey-s.result.records c.survey-s.result.bad c.survey-s.ensures c.if-bad-ne0.true

pub returns-then-n-rows : goal.returns-then-n-rows
returns-then-n-rows c =
    let slices = lent c.args.width.now c.args.lock.now c.args.mask.now c.args.value.now c.args.words.now in
    ap (λ (r : Result Counts Refusal). read_left r slices) c.refused-then-n-rows.ensures ∙ refuse-rows c.args.text.now slices c.if-lock-n.false c.if-mask-n.false c.if-value-n.false c.if-text-gt-TEXT_LIMIT.false c.opening_of-o.result c.opening_of-o.ensures c.survey-s.result.rows c.survey-s.result.records c.survey-s.result.bad c.survey-s.ensures c.if-bad-ne0.false c.if-n-rows.true

pub returns-then-words-records : goal.returns-then-words-records
returns-then-words-records c =
    let slices = lent c.args.width.now c.args.lock.now c.args.mask.now c.args.value.now c.args.words.now in
    ap (λ (r : Result Counts Refusal). read_left r slices) c.refused-then-words-records.ensures ∙ refuse-words c.args.text.now slices c.if-lock-n.false c.if-mask-n.false c.if-value-n.false c.if-text-gt-TEXT_LIMIT.false c.opening_of-o.result c.opening_of-o.ensures c.survey-s.result.rows c.survey-s.result.records c.survey-s.result.bad c.survey-s.ensures c.if-bad-ne0.false c.if-n-rows.false c.if-words-records.true

pub fill_rows-at-requires : goal.fill_rows-at-requires
fill_rows-at-requires c =
    let slices = lent c.args.width.now c.args.lock.now c.args.mask.now c.args.value.now c.args.words.now in
    rows-wait c.args.text.now slices c.if-lock-n.false c.if-mask-n.false c.if-value-n.false c.if-text-gt-TEXT_LIMIT.false c.opening_of-o.result c.opening_of-o.ensures c.survey-s.result.rows c.survey-s.result.records c.survey-s.result.bad c.survey-s.ensures c.if-bad-ne0.false c.if-n-rows.false

pub fill_records-requires : goal.fill_records-requires
fill_records-requires c =
    let slices = lent c.args.width.now c.args.lock.now c.args.mask.now c.args.value.now c.args.words.now in
    records-wait c.args.text.now slices c.if-lock-n.false c.if-mask-n.false c.if-value-n.false c.if-text-gt-TEXT_LIMIT.false c.opening_of-o.result c.opening_of-o.ensures c.survey-s.result.rows c.survey-s.result.records c.survey-s.result.bad c.survey-s.ensures c.if-bad-ne0.false c.if-n-rows.false c.if-words-records.false c.fill_rows-at.ensures

pub returns : goal.returns
returns c =
    let slices = lent c.args.width.now c.args.lock.now c.args.mask.now c.args.value.now c.args.words.now in
    accept c.args.text.now slices c.if-lock-n.false c.if-mask-n.false c.if-value-n.false c.if-text-gt-TEXT_LIMIT.false c.opening_of-o.result c.opening_of-o.ensures c.survey-s.result.rows c.survey-s.result.records c.survey-s.result.bad c.survey-s.ensures c.if-bad-ne0.false c.if-n-rows.false c.if-words-records.false c.fill_rows-at.ensures c.fill_records.ensures
