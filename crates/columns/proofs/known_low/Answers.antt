-- `known_low` meets its contract. Assumes nothing.
use Rattle.columns.proofs.Untouched.{untouched-word}
use Rattle.columns.proofs.Ends.{known-below}
use Rattle.columns.proofs.known_low.Goals as goal

pub returns : goal.returns
returns c =
    let a = c.args in
    known-below a.ma a.va a.mb a.vb _ _ c.below_lowest.ensures
    (untouched-word a.ma a.va a.mb a.vb _ _ c.product.ensures c.product-2.ensures)
