-- `mul_unknown` meets its contract: the packed product. Assumes nothing.
use mathlib.Core.Path.{ap₂, ◌∙◌}
use Rattle.vectors.specs.Row.{row}
use Rattle.products.proofs.Planes.{formed-of}
use Rattle.products.proofs.mul_unknown.Goals as goal

pub packed_unknown-requires : goal.packed_unknown-requires
packed_unknown-requires c = (c.requires.1.wide, formed-of c.requires.0 c.requires.1)

pub returns : goal.returns
returns c = ap₂ (row c.args.w) c.from.ensures.0 c.from.ensures.1 ∙ c.packed_unknown.ensures
