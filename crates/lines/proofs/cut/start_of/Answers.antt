-- `lines::cut::start_of`: at each turn what is passed, and what is left to pass, make up the start of the part. Assumes nothing.
use mathlib.Core.Path.{◌≡◌, refl, ap}
use Prim.Native.Nat.{ℕ, ◌<◌, ◌+◌, ◌-◌}
use native.Mathlib.Omega.{arith}
use lib.ListN.{length, drop}
use Rattle.grammar.specs.Cut.{past}
use Rattle.lines.proofs.Scans.{past_next, past_end, past-now, start-zero, start-here}
use Rattle.lines.proofs.cut.start_of.Goals as goal

pub returns-then-n-eq0 : goal.returns-then-n-eq0
returns-then-n-eq0 c = (start-zero c.args.text.now c.args.sep c.args.n c.if-n-eq0.true, omega arith)

pub returns-then-len-e : goal.returns-then-len-e
returns-then-len-e c =
    let e = c.end_of-e.result in
    let text = c.args.text.now in
    let len : e ≡ length text = omega (arith, c.end_of-e.ensures.1, c.if-len-e.true) in
    let start : e ≡ past c.args.sep (c.args.n - 1) text =
    omega (arith, past_end text c.args.sep c.loop.at e c.loop.invariant.0 c.end_of-e.ensures.0 (c.args.n - c.loop.counter) (omega arith) len, c.loop.invariant.2) in
    (start-here text c.args.sep c.args.n e c.if-n-eq0.false start, c.end_of-e.ensures.1)

pub loop-preserved : goal.loop-preserved
loop-preserved c =
    let e = c.end_of-e.result in
    let text = c.args.text.now in
    let l : e < length text = omega (arith, c.end_of-e.ensures.1, c.if-len-e.false) in
    let k : c.args.n - c.loop.counter - 1 ≡ c.args.n - (c.loop.counter + 1) = omega arith in
    (omega arith, refl, omega (arith, ap (λ (x : ℕ). past c.args.sep x (drop (e + 1) text)) k, past_next text c.args.sep c.loop.at e c.loop.invariant.0 c.end_of-e.ensures.0 (c.args.n - c.loop.counter) (omega arith) l, c.loop.invariant.2))

pub returns : goal.returns
returns c =
    let text = c.args.text.now in
    let start : c.loop.at ≡ past c.args.sep (c.args.n - 1) text =
    omega (arith, c.loop.invariant.2, past-now (drop c.loop.at text) c.args.sep (c.args.n - c.loop.counter) (omega arith)) in
    (start-here text c.args.sep c.args.n c.loop.at c.if-n-eq0.false start, c.loop.invariant.0)
