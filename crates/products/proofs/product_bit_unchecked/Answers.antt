-- `product_bit_unchecked` meets its contract: its column worked out by itself, as `mul` works out open columns. Assumes nothing.
use mathlib.Core.Path.{◌≡◌, sym, ap, subst, ◌∙◌}
use Prim.Native.Nat.{ℕ, ◌*◌, ◌%◌, ◌^◌, ◌<◌}
use native.Mathlib.Omega.{arith}
use lib.Pow.{pow-lt}
use lib.Bits.{bit_and}
use Rattle.bits.proofs.Words.{shifted_one}
use Rattle.columns.specs.Settled.{product_of}
use Rattle.products.proofs.Outputs.{same_bit}
use Rattle.products.proofs.Planes.{column-told}
use Rattle.products.proofs.Unsettled.{granted-below}
use Rattle.products.proofs.product_bit_unchecked.Goals as goal

-- the column as a word
column-below : (k w : ℕ) → 1 * 2 ^ k % 2 ^ 32 ≡ 2 ^ k → k < w → 1 * 2 ^ k % 2 ^ 32 < 2 ^ w
column-below k w e h = subst (λ (n : ℕ). n < 2 ^ w) (sym e) (pow-lt h)

pub unknown_left-unknown-requires : goal.unknown_left-unknown-requires
unknown_left-unknown-requires c =
    let a = c.args in
    let g = c.requires in
    granted-below a.a.mask a.a.value a.b.mask a.b.value g.width _ g.formed (column-below a.k g.width (shifted_one 32 a.k (omega (arith, g.below, g.formed.most))) g.below)

pub bit_of-requires : goal.bit_of-requires
bit_of-requires c = let g = c.requires in omega (arith, g.below, g.formed.most)

pub returns : goal.returns
returns c w h F G =
    let a = c.args in
    let g = c.requires in
    let x = g.width in
    let column = shifted_one 32 a.k (omega (arith, g.below, g.formed.most)) in
    c.bit_of.ensures x
    ∙ column-told x a.a.mask a.a.value a.b.mask a.b.value a.k c.unknown_left-unknown.result c.product.result g.formed g.below
    (c.unknown_left-unknown.ensures x g.formed (column-below a.k x column g.below) ∙ ap (λ (n : ℕ). bit_and n (product_of x a.a.mask a.a.value a.b.mask a.b.value).mask) column)
    c.product.ensures
    ∙ same_bit a.a.mask a.a.value a.b.mask a.b.value a.k x w g.below h g.formed.first g.formed.second F G
