-- `unknown_column` meets its contract. Assumes nothing.
use mathlib.Core.Path.{ap, ◌∙◌}
use Prim.Native.Nat.{ℕ, ◌*◌, ◌%◌, ◌^◌}
use native.Mathlib.Omega.{arith}
use Rattle.bits.specs.Bit.{bit}
use Rattle.bits.proofs.Bits.{bit-lt}
use Rattle.bits.proofs.Words.{shifted-bit}
use Rattle.vectors.proofs.Told.{mask-bit-of}
use Rattle.columns.specs.Settled.{product_of}
use Rattle.products.proofs.unknown_column.Goals as goal

pub returns : goal.returns
returns c w h F =
    let a = c.args in
    let m = F.most in
    let q = product_of w a.ma a.va a.mb a.vb in
    let e = mask-bit-of q a.k _ _ (c.column_bit.ensures w h F.first F.second) c.mask_bit.ensures in
    ap (λ (n : ℕ). n * 2 ^ a.k % 2 ^ 32) e ∙ shifted-bit 32 (bit q.mask a.k) a.k (bit-lt q.mask a.k) (omega arith)
