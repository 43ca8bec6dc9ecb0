-- `table_lines::print::put_rows`: the row lines still to come, put at the place reached, make up the whole. Assumes nothing.
use mathlib.Core.Path.{refl}
use Prim.Native.Nat.{◌+◌}
use native.Mathlib.Omega.{arith}
use lib.ListN.{get_or}
use Rattle.checks.specs.Model.{in_table}
use Rattle.printing.proofs.PutLines.{row_text}
use Rattle.printing.proofs.Puts.{begin, step-on, room-on, done_on}
use Rattle.table_lines.proofs.PrintLines.{rows-from, rows-begin, row_on, rows_end}
use Rattle.table_lines.proofs.print.put_rows.Goals as goal

pub loop-i-init : goal.loop-i-init
loop-i-init c =
    (refl, omega arith, begin c.args.out.now c.args.from _ _ (rows-begin (in_table c.args.t)))

pub bounds-t-i : goal.bounds-t-i
bounds-t-i c =
    omega (arith, c.requires.0.locks_length, c.requires.0.masks_length, c.requires.0.values_length)

pub bounds-t-i-in-loop-i-2 : goal.bounds-t-i-in-loop-i-2
bounds-t-i-in-loop-i-2 c =
    omega (arith, c.requires.0.locks_length, c.requires.0.masks_length, c.requires.0.values_length)

pub bounds-t-i-in-loop-i-3 : goal.bounds-t-i-in-loop-i-3
bounds-t-i-in-loop-i-3 c =
    omega (arith, c.requires.0.locks_length, c.requires.0.masks_length, c.requires.0.values_length)

pub put_row-at-requires : goal.put_row-at-requires
put_row-at-requires c =
    let t = in_table c.args.t in
    let i = c.loop-i in
    let line = row_on t i.i (get_or c.args.t.width.now i.i 0) (omega arith) refl in
    (omega (arith, c.requires.0.narrow i.i (omega arith)), room-on (row_text (get_or c.args.t.lock.now i.i 0) (get_or c.args.t.width.now i.i 0) (get_or c.args.t.mask.now i.i 0) (get_or c.args.t.value.now i.i 0)) (rows-from t (i.i + 1)) line c.requires.1 i.invariant.2)

pub loop-i-preserved : goal.loop-i-preserved
loop-i-preserved c =
    let t = in_table c.args.t in
    let i = c.loop-i in
    let line = row_on t i.i (get_or c.args.t.width.now i.i 0) (omega arith) refl in
    (refl, omega arith, step-on _ (rows-from t (i.i + 1)) line i.invariant.2 c.put_row-at.ensures)

pub returns : goal.returns
returns c =
    done_on (rows_end (in_table c.args.t) c.loop-i.i (omega arith)) c.loop-i.invariant.2
