-- `orders::rows::inside_row` meets its contract: the join of the two vectors compared with the second. Assumes nothing.
use mathlib.Core.Path.{ap, ◌∙◌}
use Rattle.vectors.specs.Row.{Row, row_of}
use Rattle.orders.specs.Order.{equal_row}
use Rattle.orders.proofs.rows.inside_row.Goals as goal

pub returns : goal.returns
returns c w = c.eq.ensures ∙ ap (λ (x : Row). equal_row x (row_of w c.args.q)) (c.join_if.ensures w)
