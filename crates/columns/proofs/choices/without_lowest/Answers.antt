-- `without_lowest` meets its contract. The loop's invariant: as many ones are left as were not cleared. Assumes nothing.
use Rattle.std.proofs.Common.{◌+◌, ◌-◌, ◌%◌, ◌^◌, arith}
use Rattle.columns.proofs.Ones.{ones-wrapped}
use Rattle.columns.proofs.choices.without_lowest.Goals as goal

pub loop-cleared-init : goal.loop-cleared-init
loop-cleared-init c = (omega arith, omega arith)

pub loop-cleared-preserved : goal.loop-cleared-preserved
loop-cleared-preserved c =
    let l = c.loop-cleared in
    let e = ones-wrapped l.rest ((l.rest + (2 ^ 64 - 1)) % 2 ^ 64) (omega arith) (omega arith) in
    let i = l.invariant.1 in
    (omega arith, omega arith)

pub returns : goal.returns
returns c = let l = c.loop-cleared in let i = l.invariant.0 in let e = l.invariant.1 in omega arith
