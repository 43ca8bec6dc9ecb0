-- `evaluation::evaluate_in` meets its contract: read, then the table that it read is printed. Assumes nothing.
use mathlib.Core.Path.{refl, sym, ap, ◌∙◌}
use native.Mathlib.Omega.{arith}
use lib.Seq.{length-take-le}
use Rattle.std.specs.Prelude.{Result}
use Rattle.checks.specs.declared.refusals.Refusal.{Refusal}
use Rattle.checks.specs.Model.{lent}
use Rattle.checks.proofs.VerdictParts.{exit}
use Rattle.texts.specs.declared.Counts.{Counts}
use Rattle.texts.specs.Model.{read_left}
use Rattle.texts.proofs.ReadLeft.{read-room}
use Rattle.evaluation.proofs.Printed.{told-as, told-refused, evaluated_refused, evaluated-read}
use Rattle.evaluation.proofs.evaluate_in.Goals as goal

pub overflow_mul-n : goal.overflow_mul-n
overflow_mul-n c =
    let slices = lent c.args.width.now c.args.lock.now c.args.mask.now c.args.value.now c.args.words.now in
    let left = lent c.read.new.width c.read.new.lock c.read.new.mask c.read.new.value c.read.new.words in
    omega (arith, (read-room c.args.text.now slices c.read.result {new = left} c.read.ensures _ c.in_ok-c.was).words_hold)

pub slice_bounds-print_table-end : goal.slice_bounds-print_table-end
slice_bounds-print_table-end c =
    let slices = lent c.args.width.now c.args.lock.now c.args.mask.now c.args.value.now c.args.words.now in
    let left = lent c.read.new.width c.read.new.lock c.read.new.mask c.read.new.value c.read.new.words in
    (read-room c.args.text.now slices c.read.result {new = left} c.read.ensures _ c.in_ok-c.was).widths_hold

pub slice_bounds-print_table-end-2 : goal.slice_bounds-print_table-end-2
slice_bounds-print_table-end-2 c =
    let slices = lent c.args.width.now c.args.lock.now c.args.mask.now c.args.value.now c.args.words.now in
    let left = lent c.read.new.width c.read.new.lock c.read.new.mask c.read.new.value c.read.new.words in
    sym (length-take-le _ _ (read-room c.args.text.now slices c.read.result {new = left} c.read.ensures _ c.in_ok-c.was).widths_hold)

pub slice_bounds-print_table-end-3 : goal.slice_bounds-print_table-end-3
slice_bounds-print_table-end-3 c =
    let slices = lent c.args.width.now c.args.lock.now c.args.mask.now c.args.value.now c.args.words.now in
    let left = lent c.read.new.width c.read.new.lock c.read.new.mask c.read.new.value c.read.new.words in
    (read-room c.args.text.now slices c.read.result {new = left} c.read.ensures _ c.in_ok-c.was).locks_hold

pub slice_bounds-print_table-end-4 : goal.slice_bounds-print_table-end-4
slice_bounds-print_table-end-4 c =
    let slices = lent c.args.width.now c.args.lock.now c.args.mask.now c.args.value.now c.args.words.now in
    let left = lent c.read.new.width c.read.new.lock c.read.new.mask c.read.new.value c.read.new.words in
    sym (length-take-le _ _ (read-room c.args.text.now slices c.read.result {new = left} c.read.ensures _ c.in_ok-c.was).locks_hold)

pub slice_bounds-print_table-end-5 : goal.slice_bounds-print_table-end-5
slice_bounds-print_table-end-5 c =
    let slices = lent c.args.width.now c.args.lock.now c.args.mask.now c.args.value.now c.args.words.now in
    let left = lent c.read.new.width c.read.new.lock c.read.new.mask c.read.new.value c.read.new.words in
    (read-room c.args.text.now slices c.read.result {new = left} c.read.ensures _ c.in_ok-c.was).masks_hold

pub slice_bounds-print_table-end-6 : goal.slice_bounds-print_table-end-6
slice_bounds-print_table-end-6 c =
    let slices = lent c.args.width.now c.args.lock.now c.args.mask.now c.args.value.now c.args.words.now in
    let left = lent c.read.new.width c.read.new.lock c.read.new.mask c.read.new.value c.read.new.words in
    sym (length-take-le _ _ (read-room c.args.text.now slices c.read.result {new = left} c.read.ensures _ c.in_ok-c.was).masks_hold)

pub slice_bounds-print_table-end-7 : goal.slice_bounds-print_table-end-7
slice_bounds-print_table-end-7 c =
    let slices = lent c.args.width.now c.args.lock.now c.args.mask.now c.args.value.now c.args.words.now in
    let left = lent c.read.new.width c.read.new.lock c.read.new.mask c.read.new.value c.read.new.words in
    (read-room c.args.text.now slices c.read.result {new = left} c.read.ensures _ c.in_ok-c.was).values_hold

pub slice_bounds-print_table-end-8 : goal.slice_bounds-print_table-end-8
slice_bounds-print_table-end-8 c =
    let slices = lent c.args.width.now c.args.lock.now c.args.mask.now c.args.value.now c.args.words.now in
    let left = lent c.read.new.width c.read.new.lock c.read.new.mask c.read.new.value c.read.new.words in
    sym (length-take-le _ _ (read-room c.args.text.now slices c.read.result {new = left} c.read.ensures _ c.in_ok-c.was).values_hold)

pub slice_bounds-print_table-end-9 : goal.slice_bounds-print_table-end-9
slice_bounds-print_table-end-9 c =
    let slices = lent c.args.width.now c.args.lock.now c.args.mask.now c.args.value.now c.args.words.now in
    let left = lent c.read.new.width c.read.new.lock c.read.new.mask c.read.new.value c.read.new.words in
    (read-room c.args.text.now slices c.read.result {new = left} c.read.ensures _ c.in_ok-c.was).words_hold

pub slice_bounds-print_table-end-10 : goal.slice_bounds-print_table-end-10
slice_bounds-print_table-end-10 c =
    let slices = lent c.args.width.now c.args.lock.now c.args.mask.now c.args.value.now c.args.words.now in
    let left = lent c.read.new.width c.read.new.lock c.read.new.mask c.read.new.value c.read.new.words in
    sym (length-take-le _ _ (read-room c.args.text.now slices c.read.result {new = left} c.read.ensures _ c.in_ok-c.was).words_hold)

pub returns-in_err-c : goal.returns-in_err-c
returns-in_err-c c =
    let slices = lent c.args.width.now c.args.lock.now c.args.mask.now c.args.value.now c.args.words.now in
    let left = lent c.read.new.width c.read.new.lock c.read.new.mask c.read.new.value c.read.new.words in
    told-refused _ _ (exit _ _ c.from_residual.ensures.1) (evaluated_refused c.args.text.now slices _ _ _ (ap (λ (x : Result Counts Refusal). read_left x left) (sym c.in_err-c.was) ∙ c.read.ensures)) refl

pub returns : goal.returns
returns c =
    let slices = lent c.args.width.now c.args.lock.now c.args.mask.now c.args.value.now c.args.words.now in
    let left = lent c.read.new.width c.read.new.lock c.read.new.mask c.read.new.value c.read.new.words in
    told-as _ _ _ (evaluated-read c.args.text.now slices _ _ (ap (λ (x : Result Counts Refusal). read_left x left) (sym c.in_ok-c.was) ∙ c.read.ensures)) c.print_table.ensures
