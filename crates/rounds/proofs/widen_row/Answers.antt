-- `rounds::widen_row` meets its contract: the join of the two rows, mask and value, put at the state row. Assumes nothing.
use mathlib.Core.Path.{ap}
use Rattle.vectors.specs.Row.{Row}
use Rattle.operations.specs.Record.{width_at}
use Rattle.steps.specs.Step.{put}
use Rattle.steps.specs.States.{held}
use Rattle.rounds.proofs.widen_row.Goals as goal

pub returns : goal.returns
returns c widths =
    let a = c.args in
    ap (λ (r : Row). put (held a.smask.now a.svalue.now) a.s r) (c.join_if-joined.ensures (width_at widths a.s))
