-- `operations::is_kind` meets its contract: the numbers of kinds are those below the constant. Assumes nothing.
use Rattle.operations.specs.Kinds.{kind_count}
use Rattle.operations.proofs.Lookup.{kind_known}
use Rattle.operations.proofs.is_kind.Goals as goal

pub returns : goal.returns
unfolding kind_count
returns c = kind_known c.args.kind
