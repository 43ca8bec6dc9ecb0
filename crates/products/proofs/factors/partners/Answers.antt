-- `partners` meets its contract: the lowest k + 1 bits of a word, reversed, are the reversed word's highest. Assumes nothing.
use mathlib.Core.Path.{◌≡◌, ap, ◌∙◌}
use Prim.Native.Nat.{ℕ, ◌+◌, ◌-◌, ◌/◌, ◌^◌}
use native.Mathlib.Omega.{arith}
use Rattle.bits.specs.Reversed.{reversed}
use Rattle.bits.proofs.Reversed.{reversed-shr}
use Rattle.products.proofs.factors.partners.Goals as goal

pub returns : goal.returns
returns c x f =
    let k = c.args.k in
    let h = c.requires in
    let e : 31 - k ≡ 32 - (k + 1) = omega arith in
    ap (λ (n : ℕ). n / 2 ^ (31 - k)) f
    ∙ ap (λ (n : ℕ). reversed 32 x / 2 ^ n) e
    ∙ reversed-shr 32 (k + 1) x (omega arith)
