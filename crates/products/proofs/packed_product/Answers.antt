-- `packed_product` meets its contract: the plain product of known operands, else the vector from the unknown columns. Assumes nothing.
use mathlib.Core.Path.{ap₂, ◌∙◌}
use Rattle.vectors.specs.Row.{row}
use Rattle.products.proofs.Planes.{planes-known}
use Rattle.products.proofs.packed_product.Goals as goal

pub width_mask-requires : goal.width_mask-requires
width_mask-requires c = (c.requires.0, c.requires.1.most)

pub returns-then-ma-mb-eq0 : goal.returns-then-ma-mb-eq0
returns-then-ma-mb-eq0 c =
    let a = c.args in
    ap₂ (row a.w) c.from.ensures.0 c.from.ensures.1
    ∙ planes-known a.w a.ma a.va a.mb a.vb c.product.result c.width_mask.result c.requires.1 c.product.ensures c.width_mask.ensures
    c.if-ma-mb-eq0.true
