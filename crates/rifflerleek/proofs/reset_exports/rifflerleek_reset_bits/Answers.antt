-- `rifflerleek::rifflerleek_reset_bits` meets its contract: what reset_bits answers and leaves, in the host's struct. Assumes nothing.
use Rattle.checks.specs.Model.{lent}
use Rattle.std.specs.Prelude.{Ok, Err}
use Rattle.rifflerleek.proofs.HostResets.{reset-hosted}
use Rattle.rifflerleek.proofs.reset_exports.rifflerleek_reset_bits.Goals as goal

pub returns-in-Ok : goal.returns-in-Ok
returns-in-Ok c =
    let a = c.args in
    let u = c.reset_bits in
    let m = reset-hosted (lent a.width.now a.lock.now a.mask.now a.value.now a.words.now) a.row a.bit _
    (Ok c.in-Ok.b) c.done.result u.new.mask u.new.value
    c.in-Ok.is c.done.ensures (u.ensures.effect, u.ensures.rests) in
    record { effect = m.0; rests = m.1 }

pub returns-in-Err : goal.returns-in-Err
returns-in-Err c =
    let a = c.args in
    let u = c.reset_bits in
    let m = reset-hosted (lent a.width.now a.lock.now a.mask.now a.value.now a.words.now) a.row a.bit _
    (Err c.in-Err.r) c.refused.result u.new.mask u.new.value
    c.in-Err.is c.refused.ensures (u.ensures.effect, u.ensures.rests) in
    record { effect = m.0; rests = m.1 }
