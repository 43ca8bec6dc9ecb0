-- `trips::write_then_read`: what write leaves is what read is given. Assumes nothing.
use mathlib.Core.Path.{sym}
use lib.Seq.{length-take-le}
use Rattle.checks.specs.Model.{in_table, lent}
use Rattle.texts.specs.Model.{read_left}
use Rattle.trips.proofs.TripCalls.{write-room, not_written, table-trip}
use Rattle.trips.proofs.write_then_read.Goals as goal

pub slice_bounds-read-end : goal.slice_bounds-read-end
slice_bounds-read-end c =
    let t = in_table c.args.t in
    write-room t c.args.out.now c.write.result c.write.ensures _ c.in_ok-n.was

pub slice_bounds-read-end-2 : goal.slice_bounds-read-end-2
slice_bounds-read-end-2 c =
    let t = in_table c.args.t in
    sym (length-take-le _ _ (write-room t c.args.out.now c.write.result c.write.ensures _ c.in_ok-n.was))

pub returns-in_err-n : goal.returns-in_err-n
returns-in_err-n c =
    let t = in_table c.args.t in
    not_written t c.args.out.now c.write.result c.write.ensures _ c.in_err-n.was _ _

pub returns : goal.returns
returns c =
    let t = in_table c.args.t in
    let s = c.args in
    let o = c.read.new in
    table-trip t s.out.now c.write.result c.write.ensures _ c.in_ok-n.was (lent s.widths.now s.locks.now s.masks.now s.values.now s.records.now)
    (read_left c.read.result (lent o.width o.lock o.mask o.value o.words)) c.read.ensures
