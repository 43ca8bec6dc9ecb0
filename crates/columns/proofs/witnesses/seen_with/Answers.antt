-- `seen_with` meets its contract: the second operand covers the three numbers. Assumes nothing.
use Rattle.columns.specs.Choices.{Witness}
use Rattle.columns.proofs.Marked.{marks-or, covered-and, witness}
use Rattle.columns.proofs.witnesses.seen_with.Goals as goal

pub returns : goal.returns
returns c =
    let a = c.args in
    let p = a.plain in
    let seen = Witness p a.a a.mb a.vb in
    marks-or seen _ _
    (marks-or seen _ _ (witness p a.a a.mb a.vb _ _ (covered-and a.mb a.vb _) c.differing.ensures)
    (witness p a.a a.mb a.vb _ _ (covered-and a.mb a.vb _) c.differing-2.ensures))
    (witness p a.a a.mb a.vb _ _ (covered-and a.mb a.vb _) c.differing-3.ensures)
