-- `below_lowest` meets its contract. Assumes nothing.
use Rattle.std.proofs.Common.{◌+◌, ◌-◌, ◌%◌, ◌^◌, arith}
use Rattle.columns.proofs.Ends.{below-lowest-set}
use Rattle.columns.proofs.below_lowest.Goals as goal

pub returns : goal.returns
returns c =
    let x = c.args.x in
    below-lowest-set x ((x + (2 ^ 32 - 1)) % 2 ^ 32) c.ranges.x.fits (omega arith) (omega arith)
