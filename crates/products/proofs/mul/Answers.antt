-- `mul` meets its contract: the packed product. Assumes nothing.
use mathlib.Core.Path.{ap₂, ◌∙◌}
use Rattle.vectors.specs.Row.{row}
use Rattle.products.proofs.Planes.{formed-of}
use Rattle.products.proofs.mul.Goals as goal

pub packed_product-requires : goal.packed_product-requires
packed_product-requires c = (c.requires.1.wide, formed-of c.requires.0 c.requires.1)

pub returns : goal.returns
returns c = ap₂ (row c.args.w) c.from.ensures.0 c.from.ensures.1 ∙ c.packed_product.ensures
