-- `checks::named::parameter_misused` meets its contract: the code that the kind has. Assumes nothing.
use Rattle.operations.specs.Kinds.{kind_of}
use Rattle.operations.proofs.Sound.{parameter-plain}
use Rattle.checks.proofs.named.parameter_misused.Goals as goal

pub returns : goal.returns
returns c = c.word_misused.ensures (kind_of c.args.r.kind).use_p (parameter-plain c.args.r.kind c.requires.0 c.requires.1) c.parameter_use.ensures
