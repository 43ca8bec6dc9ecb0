-- `known_high` meets its contract. Assumes nothing.
use Rattle.columns.proofs.Ends.{known_from}
use Rattle.columns.proofs.known_high.Goals as goal

pub returns : goal.returns
returns c = let a = c.args in known_from a.ma a.va a.mb a.vb _ _ c.ones_below.ensures c.end_reached.ensures
