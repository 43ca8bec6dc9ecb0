-- `range_search::span` meets its contract. Assumes nothing.
use mathlib.Core.Path.{◌≡◌, ap, ◌∙◌}
use Prim.Native.Nat.{ℕ, ◌-◌, ◌*◌, ◌%◌, ◌^◌, ◌≤◌}
use native.Mathlib.Omega.{arith}
use lib.Pow.{pow_pos, pow_mono}
use lib.Bits.{bit_and, and_mask}
use lib.Count.{leading_le}
use Rattle.bits.proofs.Words.{shifted_one}
use Rattle.range_search.specs.Encoding.{differing}
use Rattle.range_search.proofs.span.Goals as goal

-- a power of two, and the ones below it, as the code works them out
power : (n : ℕ) → n ≤ 32 → 1 * 2 ^ n % 2 ^ 64 ≡ 2 ^ n
power n h = shifted_one 64 n (omega arith)

pub overflow_sub-n : goal.overflow_sub-n
overflow_sub-n c = leading_le 32 _

pub overflow_sub-mask : goal.overflow_sub-mask
overflow_sub-mask c = let n = differing c.args.a c.args.b in let e = power n (omega arith) in let p = pow_pos n in omega arith

pub overflow_cast-mask-2 : goal.overflow_cast-mask-2
overflow_cast-mask-2 c =
    let n = differing c.args.a c.args.b in
    let e = power n (omega arith) in
    let p = pow_pos n in
    let q = pow_mono {i = n} {j = 32} (omega arith) in
    record { fits = omega arith }

pub returns : goal.returns
returns c =
    let n = differing c.args.a c.args.b in
    let e : bit_and c.args.m (1 * 2 ^ n % 2 ^ 64 - 1) ≡ c.args.m % 2 ^ n = ap (λ (x : ℕ). bit_and c.args.m (x - 1)) (power n (omega arith)) ∙ and_mask c.args.m n in
    ap (λ (x : ℕ). record { mask = x; value = bit_and c.args.a (2 ^ 32 - 1 - x) }) e
