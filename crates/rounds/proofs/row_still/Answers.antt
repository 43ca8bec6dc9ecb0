-- `rounds::row_still` meets its contract: the next row is tested to lie inside the state row. Assumes nothing.
use Rattle.operations.specs.Record.{width_at}
use Rattle.rounds.proofs.row_still.Goals as goal

pub returns : goal.returns
returns c widths = c.inside_row.ensures (width_at widths c.args.s)
