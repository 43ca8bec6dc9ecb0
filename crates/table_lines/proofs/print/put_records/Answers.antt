-- `table_lines::print::put_records`: the record lines still to come, put at the place reached, make up the whole. Assumes nothing.
use mathlib.Core.Path.{refl}
use Prim.Native.Nat.{◌+◌}
use native.Mathlib.Omega.{arith}
use Rattle.printing.proofs.PutLines.{record_text}
use Rattle.printing.proofs.Puts.{begin, step-on, room-on, done_on}
use Rattle.table_lines.proofs.PrintLines.{records_from, records-begin, record-on, kind-in, records-end}
use Rattle.table_lines.proofs.print.put_records.Goals as goal

pub loop-i-init : goal.loop-i-init
loop-i-init c = (refl, omega arith, begin c.args.out.now c.args.from _ _ (records-begin c.args.words.now))

pub put_record-at-requires : goal.put_record-at-requires
put_record-at-requires c =
    let words = c.args.words.now in
    let i = c.loop-i in
    let r = c.record_at in
    let line = record-on words i.i (omega arith) r.result r.ensures in
    (kind-in words i.i (omega arith) r.result r.ensures c.requires.0, room-on (record_text r.result) (records_from words (i.i + 1)) line c.requires.1 i.invariant.2)

pub loop-i-preserved : goal.loop-i-preserved
loop-i-preserved c =
    let words = c.args.words.now in
    let i = c.loop-i in
    let r = c.record_at in
    let line = record-on words i.i (omega arith) r.result r.ensures in
    (refl, omega arith, step-on _ (records_from words (i.i + 1)) line i.invariant.2 c.put_record-at.ensures)

pub returns : goal.returns
returns c = done_on (records-end c.args.words.now c.loop-i.i (omega arith)) c.loop-i.invariant.2
