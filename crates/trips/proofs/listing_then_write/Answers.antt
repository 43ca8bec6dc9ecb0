-- `trips::listing_then_write`: what read leaves is what write is given. Assumes nothing.
use mathlib.Core.Path.{sym}
use native.Mathlib.Omega.{arith}
use lib.Seq.{length-take-le}
use Rattle.checks.specs.Model.{lent}
use Rattle.texts.proofs.ReadLeft.{read-room}
use Rattle.trips.proofs.TripCalls.{not-read, form-trip}
use Rattle.trips.proofs.listing_then_write.Goals as goal

pub overflow_mul-n : goal.overflow_mul-n
overflow_mul-n c =
    let t = lent c.args.width.now c.args.lock.now c.args.mask.now c.args.value.now c.args.words.now in
    let left = lent c.read.new.width c.read.new.lock c.read.new.mask c.read.new.value c.read.new.words in
    omega (arith, (read-room c.args.text.now t c.read.result {new = left} c.read.ensures _ c.in_ok-c.was).words_hold)

pub slice_bounds-t-end : goal.slice_bounds-t-end
slice_bounds-t-end c =
    let t = lent c.args.width.now c.args.lock.now c.args.mask.now c.args.value.now c.args.words.now in
    let left = lent c.read.new.width c.read.new.lock c.read.new.mask c.read.new.value c.read.new.words in
    (read-room c.args.text.now t c.read.result {new = left} c.read.ensures _ c.in_ok-c.was).widths_hold

pub slice_bounds-t-end-2 : goal.slice_bounds-t-end-2
slice_bounds-t-end-2 c =
    let t = lent c.args.width.now c.args.lock.now c.args.mask.now c.args.value.now c.args.words.now in
    let left = lent c.read.new.width c.read.new.lock c.read.new.mask c.read.new.value c.read.new.words in
    sym (length-take-le _ _ (read-room c.args.text.now t c.read.result {new = left} c.read.ensures _ c.in_ok-c.was).widths_hold)

pub slice_bounds-t-end-3 : goal.slice_bounds-t-end-3
slice_bounds-t-end-3 c =
    let t = lent c.args.width.now c.args.lock.now c.args.mask.now c.args.value.now c.args.words.now in
    let left = lent c.read.new.width c.read.new.lock c.read.new.mask c.read.new.value c.read.new.words in
    (read-room c.args.text.now t c.read.result {new = left} c.read.ensures _ c.in_ok-c.was).locks_hold

pub slice_bounds-t-end-4 : goal.slice_bounds-t-end-4
slice_bounds-t-end-4 c =
    let t = lent c.args.width.now c.args.lock.now c.args.mask.now c.args.value.now c.args.words.now in
    let left = lent c.read.new.width c.read.new.lock c.read.new.mask c.read.new.value c.read.new.words in
    sym (length-take-le _ _ (read-room c.args.text.now t c.read.result {new = left} c.read.ensures _ c.in_ok-c.was).locks_hold)

pub slice_bounds-t-end-5 : goal.slice_bounds-t-end-5
slice_bounds-t-end-5 c =
    let t = lent c.args.width.now c.args.lock.now c.args.mask.now c.args.value.now c.args.words.now in
    let left = lent c.read.new.width c.read.new.lock c.read.new.mask c.read.new.value c.read.new.words in
    (read-room c.args.text.now t c.read.result {new = left} c.read.ensures _ c.in_ok-c.was).masks_hold

pub slice_bounds-t-end-6 : goal.slice_bounds-t-end-6
slice_bounds-t-end-6 c =
    let t = lent c.args.width.now c.args.lock.now c.args.mask.now c.args.value.now c.args.words.now in
    let left = lent c.read.new.width c.read.new.lock c.read.new.mask c.read.new.value c.read.new.words in
    sym (length-take-le _ _ (read-room c.args.text.now t c.read.result {new = left} c.read.ensures _ c.in_ok-c.was).masks_hold)

pub slice_bounds-t-end-7 : goal.slice_bounds-t-end-7
slice_bounds-t-end-7 c =
    let t = lent c.args.width.now c.args.lock.now c.args.mask.now c.args.value.now c.args.words.now in
    let left = lent c.read.new.width c.read.new.lock c.read.new.mask c.read.new.value c.read.new.words in
    (read-room c.args.text.now t c.read.result {new = left} c.read.ensures _ c.in_ok-c.was).values_hold

pub slice_bounds-t-end-8 : goal.slice_bounds-t-end-8
slice_bounds-t-end-8 c =
    let t = lent c.args.width.now c.args.lock.now c.args.mask.now c.args.value.now c.args.words.now in
    let left = lent c.read.new.width c.read.new.lock c.read.new.mask c.read.new.value c.read.new.words in
    sym (length-take-le _ _ (read-room c.args.text.now t c.read.result {new = left} c.read.ensures _ c.in_ok-c.was).values_hold)

pub slice_bounds-t-end-9 : goal.slice_bounds-t-end-9
slice_bounds-t-end-9 c =
    let t = lent c.args.width.now c.args.lock.now c.args.mask.now c.args.value.now c.args.words.now in
    let left = lent c.read.new.width c.read.new.lock c.read.new.mask c.read.new.value c.read.new.words in
    (read-room c.args.text.now t c.read.result {new = left} c.read.ensures _ c.in_ok-c.was).words_hold

pub slice_bounds-t-end-10 : goal.slice_bounds-t-end-10
slice_bounds-t-end-10 c =
    let t = lent c.args.width.now c.args.lock.now c.args.mask.now c.args.value.now c.args.words.now in
    let left = lent c.read.new.width c.read.new.lock c.read.new.mask c.read.new.value c.read.new.words in
    sym (length-take-le _ _ (read-room c.args.text.now t c.read.result {new = left} c.read.ensures _ c.in_ok-c.was).words_hold)

pub returns-in_err-c : goal.returns-in_err-c
returns-in_err-c c =
    let t = lent c.args.width.now c.args.lock.now c.args.mask.now c.args.value.now c.args.words.now in
    let left = lent c.read.new.width c.read.new.lock c.read.new.mask c.read.new.value c.read.new.words in
    not-read c.args.text.now t c.read.result {new = left} c.read.ensures _ c.in_err-c.was _ _

pub returns : goal.returns
returns c =
    let t = lent c.args.width.now c.args.lock.now c.args.mask.now c.args.value.now c.args.words.now in
    let left = lent c.read.new.width c.read.new.lock c.read.new.mask c.read.new.value c.read.new.words in
    form-trip c.args.text.now t c.read.result {new = left} c.read.ensures _ c.in_ok-c.was c.args.out.now _ c.write.ensures
