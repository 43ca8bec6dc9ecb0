-- `store` meets its contract. The invariant: the cells before i are as the store leaves them, the others as before the record. Assumes nothing.
use native.Mathlib.Omega.{arith}
use Rattle.steps.specs.States.{held}
use Rattle.memories.proofs.StoreTurns.{store-past, store-one, storing-start, storing-turn, storing-end}
use Rattle.memories.proofs.store.Goals as goal

pub returns-then-n-x : goal.returns-then-n-x
returns-then-n-x c =
    store-past c.args.width.now (held c.args.mask.now c.args.value.now) c.args.a c.args.d c.args.base c.args.n c.requires.0 c.requires.1 c.if-n-x.true

pub returns-then-address-eq0 : goal.returns-then-address-eq0
returns-then-address-eq0 c =
    store-one c.args.width.now (held c.args.mask.now c.args.value.now) c.args.a c.args.d c.args.base c.args.n c.requires.0 c.requires.1
    c.if-address-eq0.true c.if-n-x.false

pub loop-i-init : goal.loop-i-init
loop-i-init c =
    storing-start c.args.width.now (held c.args.mask.now c.args.value.now) c.args.a c.args.d c.args.base c.args.n c.requires.0 c.requires.1
    c.named_end-end.result c.named_end-end.ensures c.if-n-x.false c.if-address-eq0.false

pub loop-i-preserved : goal.loop-i-preserved
loop-i-preserved c = (
  omega arith,
  storing-turn c.args.width.now (held c.args.mask.now c.args.value.now) c.args.a c.args.d c.args.base c.args.n c.requires.0 c.requires.1
      c.named_end-end.result c.named_end-end.ensures c.if-n-x.false c.if-address-eq0.false
      c.loop-i.i c.loop-i-test.true (held c.loop-i.mask c.loop-i.value) c.loop-i.invariant.1 c.join_if-r.result.mask c.join_if-r.result.value c.join_if-r.ensures,
)

pub returns : goal.returns
returns c =
    storing-end c.args.width.now (held c.args.mask.now c.args.value.now) c.args.a c.args.d c.args.base c.args.n c.requires.0 c.requires.1
    c.named_end-end.result c.named_end-end.ensures c.if-n-x.false c.if-address-eq0.false
    c.loop-i.i c.loop-i-test.false c.loop-i.invariant.0 (held c.loop-i.mask c.loop-i.value) c.loop-i.invariant.1
