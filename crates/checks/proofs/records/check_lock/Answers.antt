-- `checks::records::check_lock` meets its contract. Assumes nothing.
use mathlib.Core.Path.{sym, ◌∙◌}
use Rattle.operations.specs.Record.{words_of}
use Rattle.checks.proofs.Recording.{lock-refused, lock-open, lock-unasked}
use Rattle.checks.proofs.records.check_lock.Goals as goal

pub returns-then-target_marked : goal.returns-then-target_marked
returns-then-target_marked c =
    let a = c.args in
    c.refuse.ensures ∙ sym (lock-refused a.locked a.lock.now (words_of a.r) a.i c.if-locked.true (sym c.target_marked.ensures ∙ c.if-target_marked.true))

pub returns-else-target_marked : goal.returns-else-target_marked
returns-else-target_marked c =
    let a = c.args in
    sym (lock-open a.locked a.lock.now (words_of a.r) a.i c.if-locked.true (sym c.target_marked.ensures ∙ c.if-target_marked.false))

pub returns-else-locked : goal.returns-else-locked
returns-else-locked c = let a = c.args in sym (lock-unasked a.locked a.lock.now (words_of a.r) a.i c.if-locked.false)
