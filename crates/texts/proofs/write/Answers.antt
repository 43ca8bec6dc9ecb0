-- `texts::write`: size's checks, then the buffer, then the header, the rows and the records. Assumes nothing.
use mathlib.Core.Path.{ap, ◌∙◌}
use Rattle.checks.specs.Model.{in_table}
use Rattle.checks.proofs.VerdictParts.{exit}
use Rattle.texts.specs.Model.{write_left}
use Rattle.texts.proofs.WriteCall.{write-refused, write-short, header-room, rows_fit, rows-room, records-fit, records-room, write_done}
use Rattle.texts.proofs.write.Goals as goal

pub returns-then-out-n : goal.returns-then-out-n
returns-then-out-n c =
    let t = in_table c.args.t in
    write-short t c.args.out.now c.size.result c.size.ensures _ c.in_ok-n.was c.if-out-n.true

pub put_word-from-requires : goal.put_word-from-requires
put_word-from-requires c =
    let t = in_table c.args.t in
    header-room t c.args.out.now c.size.result c.size.ensures _ c.in_ok-n.was c.if-out-n.false

pub put_rows-at-requires : goal.put_rows-at-requires
put_rows-at-requires c =
    let t = in_table c.args.t in
    (rows_fit t c.args.out.now c.size.result c.size.ensures _ c.in_ok-n.was c.if-out-n.false, rows-room t c.args.out.now c.size.result c.size.ensures _ c.in_ok-n.was c.if-out-n.false c.put_word-from.ensures)

pub put_records-end-requires : goal.put_records-end-requires
put_records-end-requires c =
    let t = in_table c.args.t in
    (records-fit t c.args.out.now c.size.result c.size.ensures _ c.in_ok-n.was c.if-out-n.false, records-room t c.args.out.now c.size.result c.size.ensures _ c.in_ok-n.was c.if-out-n.false c.put_word-from.ensures c.put_rows-at.ensures)

pub returns-in_err-n : goal.returns-in_err-n
returns-in_err-n c =
    let t = in_table c.args.t in
    ap (λ r. write_left r c.args.out.now) (exit _ _ c.from_residual.ensures.1) ∙ write-refused t c.args.out.now c.size.result c.size.ensures _ c.in_err-n.was

pub returns : goal.returns
returns c =
    let t = in_table c.args.t in
    write_done t c.args.out.now c.size.result c.size.ensures _ c.in_ok-n.was c.if-out-n.false c.put_word-from.ensures c.put_rows-at.ensures c.put_records-end.ensures
