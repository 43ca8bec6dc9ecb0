-- `logic::comparison::flipped` meets its contract, a power of 2 below the word is a shifted 1. Assumes nothing.
use Rattle.std.proofs.Common.{ℕ, ◌-◌, ◌%◌, ◌^◌, ap, ◌∙◌, mod-eq_of_lt, one-mul, arith}
use lib.Pow.{pow-lt}
use lib.Bits.{bit_and, bit_xor}
use Rattle.logic.proofs.comparison.flipped.Goals as goal

pub returns : goal.returns
returns c =
    let a = c.args in
    ap (λ (x : ℕ). bit_xor a.x.value (bit_and x (2 ^ 32 - 1 - a.x.mask))) (ap (λ (x : ℕ). x % 2 ^ 32) (one-mul (2 ^ (a.w - 1))) ∙ mod-eq_of_lt (pow-lt {j = 32} (omega arith)))
