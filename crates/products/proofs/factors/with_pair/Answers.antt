-- `with_pair` meets its contract: no bit is shifted out. Assumes nothing.
use mathlib.Core.Path.{ap, ◌∙◌}
use Prim.Native.Nat.{ℕ, ◌-◌, ◌*◌, ◌^◌}
use native.Mathlib.Omega.{arith}
use lib.Bits.{bit_or}
use Rattle.products.specs.Factors.{with_pair}
use Rattle.bits.proofs.Words.{shifted-bit}
use Rattle.products.proofs.factors.with_pair.Goals as goal

pub returns : goal.returns
unfolding with_pair
returns c =
    let k = c.args.k in
    let i = c.args.i in
    let x = c.args.x in
    let h = c.requires in
    let l = c.least_bit-low in
    let g = c.greatest_bit-high in
    let el = l.ensures.0 in
    let eg = g.ensures.0 in
    let la = ap (bit_or x.least.a) (shifted-bit 32 l.result i l.ensures.1 (omega arith) ∙ ap (λ (n : ℕ). n * 2 ^ i) el) in
    let lb = ap (bit_or x.least.b) (shifted-bit 32 l.result (k - i) l.ensures.1 (omega arith) ∙ ap (λ (n : ℕ). n * 2 ^ (k - i)) el) in
    let ga = ap (bit_or x.greatest.a) (shifted-bit 32 g.result i g.ensures.1 (omega arith) ∙ ap (λ (n : ℕ). n * 2 ^ i) eg) in
    let gb = ap (bit_or x.greatest.b) (shifted-bit 32 (1 - g.result) (k - i) (omega arith) (omega arith) ∙ ap (λ (n : ℕ). (1 - n) * 2 ^ (k - i)) eg) in
    λ ι. record { least = record { a = la ι; b = lb ι }; greatest = record { a = ga ι; b = gb ι } }
