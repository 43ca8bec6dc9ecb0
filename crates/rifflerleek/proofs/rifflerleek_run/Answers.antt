-- `rifflerleek::rifflerleek_run` meets its contract: what run answers and leaves, in the host's struct. Assumes nothing.
use Rattle.checks.specs.Model.{lent}
use Rattle.rifflerleek.proofs.Runs.{run-hosted}
use Rattle.rifflerleek.proofs.rifflerleek_run.Goals as goal

pub returns : goal.returns
returns c =
    let a = c.args in
    let u = c.run in
    let m = run-hosted (lent a.width.now a.lock.now a.mask.now a.value.now a.words.now) a.first a.last u.result c.from.result u.new.mask u.new.value
    c.from.ensures (u.ensures.effect, (u.ensures.demand2, u.ensures.demand3)) in
    record { effect = m.0; demand2 = m.1.0; demand3 = m.1.1 }
