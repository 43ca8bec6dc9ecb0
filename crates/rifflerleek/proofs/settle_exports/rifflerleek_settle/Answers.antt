-- `rifflerleek::rifflerleek_settle` meets its contract: what settle answers and leaves, in the host's struct. Assumes nothing.
use Rattle.checks.specs.Model.{lent}
use Rattle.rifflerleek.proofs.HostClocks.{settle-hosted}
use Rattle.rifflerleek.proofs.settle_exports.rifflerleek_settle.Goals as goal

pub returns : goal.returns
returns c =
    let a = c.args in
    let m = settle-hosted (lent a.width.now a.lock.now a.mask.now a.value.now a.words.now) a.states.now a.nexts.now c.settle.result
    c.from.result c.settle.new.mask c.settle.new.value c.from.ensures (c.settle.ensures.effect, c.settle.ensures.settles) in
    record { effect = m.0; settles = m.1 }
