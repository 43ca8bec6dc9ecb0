-- `and_not` meets its contract. Assumes nothing.
use Rattle.products.proofs.Words.{and-complement}
use Rattle.products.proofs.factors.and_not.Goals as goal

pub returns : goal.returns
returns c = and-complement 32 c.args.x c.args.y c.ranges.x.fits c.ranges.y.fits
