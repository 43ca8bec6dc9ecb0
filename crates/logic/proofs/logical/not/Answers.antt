-- `logic::logical::not` meets its contract, by `not-result`. Assumes nothing.
use Rattle.std.proofs.Common.{ℕ, ap, ◌∙◌}
use lib.Bits.{bit_or, bit_xor}
use Rattle.vectors.specs.Row.{row}
use Rattle.logic.proofs.BitwiseResults.{not-result}
use Rattle.logic.proofs.logical.not.Goals as goal

pub returns : goal.returns
returns c =
    let a = c.args in
    ap (λ (x : ℕ). row a.w a.a.mask (bit_xor x (bit_or a.a.value a.a.mask))) c.width_mask.ensures ∙ not-result a.w a.a.mask a.a.value c.requires.1
