-- `oracle::numbers::times` is safe and ends. A number below 2^32 times one of at most 2^32 fits 64 bits. Assumes nothing.
use Rattle.std.proofs.Common.{ℕ, ◌*◌, ◌<◌, ◌≤◌, mul-le-mul, arith}
use Rattle.oracle.proofs.numbers.times.Goals as goal

-- the product of a number below 2^32 and one of at most 2^32
product : {a b : ℕ} → a < 4294967296 → b ≤ 4294967296 → a * b ≤ 18446744069414584320
product {a} h k =
    let l : a ≤ 4294967295 = omega arith in
    mul-le-mul l k

pub overflow_mul-result : goal.overflow_mul-result
overflow_mul-result c = let h = product c.requires.0 c.requires.1 in omega arith

pub returns : goal.returns
returns c = product c.requires.0 c.requires.1
