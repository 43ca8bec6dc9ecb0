-- `bits::reverse` meets its contract: the lowest byte of the word, reversed, comes to the top, four times over. Assumes nothing.
use Rattle.std.proofs.Common.{◌≡◌, sym, ap, ◌∙◌, ℕ, ◌+◌, ◌*◌, ◌/◌, ◌^◌, arith}
use native.Mathlib.Nat.{div-one}
use lib.Pow.{shr-shr}
use Rattle.bits.specs.Reversed.{reversed}
use Rattle.bits.proofs.Reversed.{reversed-cat}
use Rattle.bits.proofs.reverse.Goals as goal

-- one byte of the word's rest from bit k
byte : (x k m : ℕ) → reversed (8 + m) (x / 2 ^ k) ≡ reversed 8 (x / 2 ^ k) * 2 ^ m + reversed m (x / 2 ^ (k + 8))
byte x k m = reversed-cat 8 m (x / 2 ^ k) ∙ ap (λ (y : ℕ). reversed 8 (x / 2 ^ k) * 2 ^ m + reversed m y) (shr-shr x k 8)

word : (x : ℕ) →
    reversed 32 x ≡ ((reversed 8 (x / 2 ^ 0) * 2 ^ 8 + reversed 8 (x / 2 ^ 8)) * 2 ^ 8 + reversed 8 (x / 2 ^ 16)) * 2 ^ 8 + reversed 8 (x / 2 ^ 24)
word x =
    let whole : reversed 32 x ≡ reversed 32 (x / 2 ^ 0) = ap (reversed 32) (sym (div-one x)) in
    omega (arith, byte x 0 24, byte x 8 16, byte x 16 8)

pub returns : goal.returns
returns c = cc (word c.args.x)
