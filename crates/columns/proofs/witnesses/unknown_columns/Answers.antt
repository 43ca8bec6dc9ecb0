-- `unknown_columns` meets its contract: the first operand covers the three numbers. Assumes nothing.
use Rattle.columns.proofs.Marked.{unknown-or, covered-and, witnessed}
use Rattle.columns.proofs.witnesses.unknown_columns.Goals as goal

pub returns : goal.returns
returns c =
    let a = c.args in
    let e = c.product-plain.ensures in
    unknown-or a.ma a.va a.mb a.vb _ _
    (unknown-or a.ma a.va a.mb a.vb _ _
    (witnessed a.ma a.va a.mb a.vb _ e _ (covered-and a.ma a.va _) _ c.seen_with.ensures)
    (witnessed a.ma a.va a.mb a.vb _ e _ (covered-and a.ma a.va _) _ c.seen_with-2.ensures))
    (witnessed a.ma a.va a.mb a.vb _ e _ (covered-and a.ma a.va _) _ c.seen_with-3.ensures)
