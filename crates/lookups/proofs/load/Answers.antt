-- `load` meets its contract. The invariant: the vector is the join of the cells before i that the address may name. Assumes nothing.
use Rattle.lookups.proofs.LoadTurns.{load_past, load-start, load-turn, load-end}
use Rattle.lookups.proofs.load.Goals as goal

pub returns-then-n-x : goal.returns-then-n-x
returns-then-n-x c =
    load_past c.args.w c.args.wa c.args.a.mask c.args.a.value c.args.mask.now c.args.value.now c.requires c.if-n-x.true

pub loop-i-init : goal.loop-i-init
loop-i-init c =
    load-start c.args.w c.args.wa c.args.a.mask c.args.a.value c.args.mask.now c.args.value.now c.requires c.named_end-end.result c.named_end-end.ensures c.if-n-x.false

pub loop-i-preserved : goal.loop-i-preserved
loop-i-preserved c =
    load-turn c.args.w c.args.wa c.args.a.mask c.args.a.value c.args.mask.now c.args.value.now c.requires c.named_end-end.result c.named_end-end.ensures c.if-n-x.false
    c.loop-i.i c.loop-i.joined.mask c.loop-i.joined.value c.join_if-joined.result.mask c.join_if-joined.result.value c.loop-i-test.true c.loop-i.invariant (c.join_if-joined.ensures c.args.w)

pub returns : goal.returns
returns c =
    load-end c.args.w c.args.wa c.args.a.mask c.args.a.value c.args.mask.now c.args.value.now c.requires c.named_end-end.result c.named_end-end.ensures c.if-n-x.false
    c.loop-i.i c.loop-i.joined.mask c.loop-i.joined.value c.join_if.result.mask c.join_if.result.value c.loop-i-test.false c.loop-i.invariant (c.join_if.ensures c.args.w)
