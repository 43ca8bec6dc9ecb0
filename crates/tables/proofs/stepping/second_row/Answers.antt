-- `tables::stepping::second_row` meets its contract: the code that the kind has. Assumes nothing.
use Rattle.operations.specs.Kinds.{kind_of}
use Rattle.tables.proofs.stepping.second_row.Goals as goal

pub returns : goal.returns
returns c = c.used_row.ensures (kind_of c.args.r.kind).use_b c.second_use.ensures
