-- `operations::parameter_use` meets its contract: the word computes to the digits of the kinds. Assumes nothing.
use mathlib.Core.Path.{ap, ◌∙◌}
use native.Mathlib.Omega.{arith}
use Rattle.operations.proofs.Lookup.{kinds-few, kind-below}
use Rattle.operations.specs.Encoding.{use_numbered}
use Rattle.operations.proofs.Digits.{digits_of, parameter-is}
use Rattle.operations.proofs.parameter_use.Goals as goal

pub digit-requires : goal.digit-requires
digit-requires c = omega (arith, kinds-few, kind-below c.args.kind c.requires)

pub returns : goal.returns
unfolding digits_of
returns c = c.use_of.ensures ∙ ap use_numbered c.digit.ensures ∙ parameter-is c.args.kind c.requires
