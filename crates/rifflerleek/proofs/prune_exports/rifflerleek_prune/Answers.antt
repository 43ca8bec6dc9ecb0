-- `rifflerleek::rifflerleek_prune` meets its contract: what prune answers and leaves, in the host's struct. Assumes nothing.
use Rattle.checks.specs.Model.{lent}
use Rattle.rifflerleek.proofs.HostPrunes.{prune-hosted}
use Rattle.rifflerleek.proofs.prune_exports.rifflerleek_prune.Goals as goal

pub returns : goal.returns
returns c =
    let a = c.args in
    let m = prune-hosted (lent a.width.now a.lock.now a.mask.now a.value.now a.words.now) a.marks.now c.prune.result
    c.from.result c.prune.new.words c.from.ensures (c.prune.ensures.effect, c.prune.ensures.keeps) in
    record { effect = m.0; keeps = m.1 }
