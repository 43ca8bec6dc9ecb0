-- `checks::named::second_misused` meets its contract: the code that the kind has. Assumes nothing.
use Rattle.operations.specs.Kinds.{kind_of}
use Rattle.operations.proofs.Sound.{second_plain}
use Rattle.checks.proofs.named.second_misused.Goals as goal

pub returns : goal.returns
returns c = c.word_misused.ensures (kind_of c.args.r.kind).use_b (second_plain c.args.r.kind c.requires) c.second_use.ensures
