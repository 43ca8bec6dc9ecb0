-- `products::factors::settled_bit` meets its contract. Assumes nothing.
use mathlib.Core.Path.{ap₂, ◌∙◌}
use mir.Facts.{to_z-of_z}
use mir.Syntax.{w64}
use Rattle.products.specs.ColumnSum.{bit_of_floors}
use Rattle.products.specs.Factors.{settled_bit}
use Rattle.products.proofs.factors.settled_bit.Goals as goal

pub returns : goal.returns
unfolding settled_bit
returns c =
    let l = c.column_floor-low in
    let h = c.column_floor-high in
    c.bit_of_floors.ensures
    ∙ ap₂ bit_of_floors (to_z-of_z {w = w64} (record { sfits = l.type_inv }) ∙ l.ensures) (to_z-of_z {w = w64} (record { sfits = h.type_inv }) ∙ h.ensures)
