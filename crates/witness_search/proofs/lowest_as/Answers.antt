-- `witness_search::lowest_as` meets its contract. Assumes nothing.
use mathlib.Core.Path.{refl, ap}
use Prim.Native.Nat.{ℕ, ◌^◌, ◌≤◌, ◌<◌}
use native.Mathlib.Omega.{arith}
use lib.Bits.{bit_or}
use lib.Count.{count_trailing_zeros}
use Rattle.bits.proofs.Words.{shifted-bit}
use Rattle.bits.proofs.LowestBit.{lowest}
use Rattle.witness_search.proofs.lowest_as.Goals as goal

place : (m : ℕ) → 1 ≤ m → m < 2 ^ 32 → count_trailing_zeros 32 m < 32
place m h l = (lowest 32 m (λ e. omega arith) l).0

pub overflow_shl-result : goal.overflow_shl-result
overflow_shl-result c = place c.args.x.mask c.requires.0 (omega arith)

pub returns : goal.returns
returns c =
    let a = c.args in
    (refl, ap (bit_or a.x.value) (shifted-bit 32 a.b (count_trailing_zeros 32 a.x.mask) c.requires.1 (place a.x.mask c.requires.0 (omega arith))))
