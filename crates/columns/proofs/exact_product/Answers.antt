-- `exact_product` meets its contract. Assumes nothing.
use Rattle.columns.proofs.Between.{product-fits}
use Rattle.columns.proofs.exact_product.Goals as goal

pub overflow_mul-result : goal.overflow_mul-result
overflow_mul-result c = record { fits = product-fits c.args.a c.args.b c.ranges.a.fits c.ranges.b.fits }
