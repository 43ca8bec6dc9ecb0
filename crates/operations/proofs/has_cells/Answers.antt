-- `operations::has_cells` meets its contract: the kinds that have cells are the last ones. Assumes nothing.
use Rattle.operations.proofs.Sound.{cells-from}
use Rattle.operations.proofs.has_cells.Goals as goal

pub returns : goal.returns
returns c = cells-from c.args.kind c.requires
