-- `rifflerleek::rifflerleek_read` meets its contract: what read answers and leaves, in the host's struct. Assumes nothing.
use Rattle.checks.specs.Model.{lent}
use Rattle.std.specs.Prelude.{Ok, Err}
use Rattle.rifflerleek.proofs.Hosted.{read-hosted}
use Rattle.rifflerleek.proofs.rifflerleek_read.Goals as goal

pub returns-in-Ok : goal.returns-in-Ok
returns-in-Ok c =
    let a = c.args in
    let l = c.read.new in
    read-hosted a.text.now (lent a.width.now a.lock.now a.mask.now a.value.now a.words.now)
    (lent l.width l.lock l.mask l.value l.words)
    c.read.result (Ok c.in-Ok.found)
    c.done.result c.in-Ok.is c.done.ensures c.read.ensures

pub returns-in-Err : goal.returns-in-Err
returns-in-Err c =
    let a = c.args in
    let l = c.read.new in
    read-hosted a.text.now (lent a.width.now a.lock.now a.mask.now a.value.now a.words.now)
    (lent l.width l.lock l.mask l.value l.words)
    c.read.result (Err c.in-Err.r) c.refused.result c.in-Err.is c.refused.ensures c.read.ensures
