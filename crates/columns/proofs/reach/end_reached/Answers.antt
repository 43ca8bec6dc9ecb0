-- `end_reached` meets its contract: every exact product lies between the least and the greatest. Assumes nothing.
use lib.Count.{leading_le}
use Rattle.columns.proofs.Between.{settled-above}
use Rattle.columns.proofs.reach.end_reached.Goals as goal

pub overflow_sub-result : goal.overflow_sub-result
overflow_sub-result c = leading_le 64 _

pub returns : goal.returns
returns c =
    let a = c.args in
    let f = c.ranges in
    settled-above a.ma a.va a.mb a.vb _ _ f.ma.fits f.va.fits f.mb.fits f.vb.fits c.exact_product-least.ensures c.exact_product-greatest.ensures
