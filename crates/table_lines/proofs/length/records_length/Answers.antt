-- `table_lines::length::records_length`: the bytes counted, and those of the record lines still to come, make up the whole. Assumes nothing.
use mathlib.Core.Path.{refl, ap}
use native.Mathlib.Omega.{arith}
use lib.ListN.{length}
use Rattle.table_lines.proofs.PrintLines.{records-begin, record-left, kind-in, records-end}
use Rattle.table_lines.proofs.length.records_length.Goals as goal

pub loop-i-init : goal.loop-i-init
loop-i-init c = (refl, omega arith, omega (arith, ap length (records-begin c.args.words.now)))

pub record_length-total-requires : goal.record_length-total-requires
record_length-total-requires c =
    kind-in c.args.words.now c.loop-i.i (omega arith) c.record_at.result c.record_at.ensures c.requires.0

pub overflow_add-total : goal.overflow_add-total
overflow_add-total c =
    let r = c.record_at in
    let left = record-left c.args.words.now c.loop-i.i (omega arith) r.result r.ensures in
    omega (arith, left, c.loop-i.invariant.2, c.record_length-total.ensures, c.requires.1)

pub loop-i-preserved : goal.loop-i-preserved
loop-i-preserved c =
    let r = c.record_at in
    let left = record-left c.args.words.now c.loop-i.i (omega arith) r.result r.ensures in
    (refl, omega arith, omega (arith, left, c.loop-i.invariant.2, c.record_length-total.ensures))

pub returns : goal.returns
returns c = omega (arith, c.loop-i.invariant.2, ap length (records-end c.args.words.now c.loop-i.i (omega arith)))
