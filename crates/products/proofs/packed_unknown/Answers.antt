-- `packed_unknown` meets its contract: the unknown columns are the mask, the values' product has the other bits. Assumes nothing.
use mathlib.Core.Path.{ap₂, ◌∙◌}
use Rattle.vectors.specs.Row.{row}
use Rattle.products.proofs.Planes.{planes-of}
use Rattle.products.proofs.packed_unknown.Goals as goal

pub width_mask-ones-requires : goal.width_mask-ones-requires
width_mask-ones-requires c = (c.requires.0, c.requires.1.most)

pub returns : goal.returns
returns c =
    let a = c.args in
    ap₂ (row a.w) c.from.ensures.0 c.from.ensures.1
    ∙ planes-of a.w a.ma a.va a.mb a.vb c.unknown_below-unknown.result c.product.result c.requires.1 c.unknown_below-unknown.type_inv c.product.ensures c.unknown_below-unknown.ensures
    c.width_mask-ones.result c.width_mask-ones.ensures
