-- `operations::word_class` meets its contract: the word computes to the digits of the kinds. Assumes nothing.
use mathlib.Core.Path.{ap, ◌∙◌}
use native.Mathlib.Omega.{arith}
use Rattle.operations.proofs.Lookup.{kinds-few, kind-below}
use Rattle.operations.specs.Encoding.{class_numbered}
use Rattle.operations.proofs.Digits.{digits_of, class-is}
use Rattle.operations.proofs.word_class.Goals as goal

pub digit-requires : goal.digit-requires
digit-requires c = omega (arith, kinds-few, kind-below c.args.kind c.requires)

pub returns : goal.returns
unfolding digits_of
returns c = c.class_of.ensures ∙ ap class_numbered c.digit.ensures ∙ class-is c.args.kind c.requires
