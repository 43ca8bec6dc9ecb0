-- `logic::movement::concat` meets its contract, by the law of kernels that move bits. Assumes nothing.
use Rattle.std.proofs.Common.{refl, arith}
use Rattle.operations.specs.Kinds.{kinds}
use Rattle.logic.proofs.Readies.{concat-fits}
use Rattle.logic.proofs.Moving.{moving-result}
use Rattle.logic.proofs.Sources.{concat-moved}
use Rattle.logic.proofs.Planes.{concat-word}
use Rattle.logic.proofs.movement.concat.Goals as goal

pub overflow_shl-result : goal.overflow_shl-result
overflow_shl-result c = omega (arith, concat-fits c.requires.1, c.requires.1.widths.0)

pub overflow_shl-result-2 : goal.overflow_shl-result-2
overflow_shl-result-2 c = omega (arith, concat-fits c.requires.1, c.requires.1.widths.0)

pub returns : goal.returns
unfolding kinds
returns c =
    let a = c.args in
    let R = c.requires.1 in
    let e = concat-fits R in
    moving-result 10 refl R (concat-moved a.wt a.wa a.wb e)
    (concat-word a.wt a.wa a.wb a.a.mask a.b.mask 32 R.formed.0.mask_below R.formed.1.0.mask_below (omega arith))
    (concat-word a.wt a.wa a.wb a.a.value a.b.value 32 R.formed.0.value_below R.formed.1.0.value_below (omega arith))
