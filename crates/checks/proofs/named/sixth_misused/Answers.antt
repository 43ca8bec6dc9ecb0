-- `checks::named::sixth_misused` meets its contract: the code that the kind has. Assumes nothing.
use Rattle.operations.specs.Kinds.{kind_of}
use Rattle.operations.proofs.Sound.{sixth-plain}
use Rattle.checks.proofs.named.sixth_misused.Goals as goal

pub returns : goal.returns
returns c = c.word_misused.ensures (kind_of c.args.r.kind).use_c (sixth-plain c.args.r.kind c.requires.0 c.requires.1) c.sixth_use.ensures
