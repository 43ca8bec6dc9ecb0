-- `operations::rule` meets its contract: the words compute to the digits of the kinds. Assumes nothing.
use mathlib.Core.Path.{ap, ap₂, ◌∙◌}
use Prim.Native.Nat.{ℕ, ◌+◌, ◌*◌}
use native.Mathlib.Omega.{arith}
use Rattle.operations.proofs.Lookup.{kinds-few, kind-below}
use Rattle.operations.specs.Encoding.{rule_model, rule_numbered}
use Rattle.operations.proofs.Digits.{pairs_of, rule-is}
use Rattle.operations.proofs.rule.Goals as goal

pub digit-requires : goal.digit-requires
digit-requires c = omega (arith, kinds-few, kind-below c.args.kind c.requires)

pub digit-requires-2 : goal.digit-requires-2
digit-requires-2 c = omega (arith, kinds-few, kind-below c.args.kind c.requires)

pub returns : goal.returns
unfolding pairs_of
returns c =
    ap rule_model c.rule_of.ensures
    ∙ ap₂ (λ (x y : ℕ). rule_model (rule_numbered (x + y * 4))) c.digit.ensures c.digit-2.ensures
    ∙ rule-is c.args.kind c.requires
