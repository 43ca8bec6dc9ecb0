-- `chosen` meets its contract. Assumes nothing.
use Rattle.columns.specs.Choices.{difference_at}
use Rattle.columns.proofs.choices.chosen.Goals as goal

pub returns : goal.returns
unfolding difference_at
returns c = c.differing.ensures
