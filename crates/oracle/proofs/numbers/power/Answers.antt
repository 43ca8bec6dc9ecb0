-- `oracle::numbers::power` is safe and ends. 2^k is at most 2^32, so the shift loses no bit. Assumes nothing.
use Rattle.std.proofs.Common.{◌^◌, ◌≤◌, arith, pow_pos, pow_mono}
use Rattle.oracle.proofs.numbers.power.Goals as goal

pub returns : goal.returns
returns c =
    let k = c.args.k in
    let positive = pow_pos k in
    let most : 2 ^ k ≤ 2 ^ 32 = pow_mono c.requires in
    omega arith
