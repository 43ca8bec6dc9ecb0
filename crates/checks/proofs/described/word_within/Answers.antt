-- `checks::described::word_within` meets its contract. Assumes nothing.
use mathlib.Core.Path.{ap}
use lib.Dec.{ltb}
use Rattle.checks.proofs.described.word_within.Goals as goal

pub returns : goal.returns
returns c = ap (ltb c.args.word) c.limit_where.ensures
