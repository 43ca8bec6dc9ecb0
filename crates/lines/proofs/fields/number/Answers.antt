-- `lines::fields::number`: the bytes passed are digits, and n is what they stand for. Assumes nothing.
use mathlib.Core.Path.{refl}
use native.Mathlib.Omega.{arith}
use Rattle.lines.proofs.ReadNumbers.{too_short, just-zero, leading-zero, too-low, too-high, too-great, begin, more, done}
use Rattle.lines.proofs.fields.number.Goals as goal

pub returns-then-len-eq0 : goal.returns-then-len-eq0
returns-then-len-eq0 c = too_short c.args.f.now c.if-len-eq0.true

pub returns-then-len-eq1 : goal.returns-then-len-eq1
returns-then-len-eq1 c = just-zero c.args.f.now c.if-f-eq48.true c.if-len-eq1.true

pub returns-then-f-eq48 : goal.returns-then-f-eq48
returns-then-f-eq48 c = leading-zero c.args.f.now c.if-f-eq48.true c.if-len-eq1.false

pub loop-i-init : goal.loop-i-init
loop-i-init c = (refl, omega arith, begin c.args.f.now)

pub returns-then-b-lt48 : goal.returns-then-b-lt48
returns-then-b-lt48 c =
    too-low c.args.f.now c.loop-i.i _ (omega arith) refl c.if-b-lt48.true

pub returns-then-b-gt57 : goal.returns-then-b-gt57
returns-then-b-gt57 c =
    too-high c.args.f.now c.loop-i.i _ (omega arith) refl c.if-b-gt57.true

pub overflow_mul-n : goal.overflow_mul-n
overflow_mul-n c = omega (arith, c.loop-i.invariant.2.small)

pub overflow_add-n : goal.overflow_add-n
overflow_add-n c = omega (arith, c.loop-i.invariant.2.small)

pub returns-then-n-gt-NUMBER_LIMIT : goal.returns-then-n-gt-NUMBER_LIMIT
returns-then-n-gt-NUMBER_LIMIT c =
    let i = c.loop-i in
    too-great c.args.f.now i.i i.n _ (omega arith) refl (omega arith) (omega arith) i.invariant.2 c.if-n-gt-NUMBER_LIMIT.true

pub loop-i-preserved : goal.loop-i-preserved
loop-i-preserved c =
    let i = c.loop-i in
    (refl, omega arith, more c.args.f.now i.i i.n _ (omega arith) refl (omega arith) (omega arith) i.invariant.2 c.if-n-gt-NUMBER_LIMIT.false)

pub returns : goal.returns
returns c =
    done c.args.f.now c.loop-i.i c.loop-i.n (omega arith) (omega arith) c.if-len-eq0.false c.if-f-eq48.false c.loop-i.invariant.2
