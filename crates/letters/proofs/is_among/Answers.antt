-- `letters::is_among`: the letters passed are other ones. Assumes nothing.
use mathlib.Core.Path.{refl}
use native.Mathlib.Omega.{arith}
use Rattle.letters.proofs.Among.{passed, at-end}
use Rattle.letters.proofs.is_among.Goals as goal

pub loop-i-init : goal.loop-i-init
loop-i-init c = (omega arith, refl)

pub loop-i-preserved : goal.loop-i-preserved
loop-i-preserved c =
    let a = c.args in (omega arith, passed a.b a.letters.now c.loop-i.i c.loop-i.invariant.1 (omega arith) (λ x. omega arith))

pub returns : goal.returns
returns c =
    let a = c.args in at-end a.b a.letters.now c.loop-i.i c.loop-i.invariant.1 (omega arith)
