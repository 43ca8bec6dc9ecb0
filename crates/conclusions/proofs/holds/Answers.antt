-- `conclusions::holds` meets its contract: the mask bit is 0 and the value bit is the value. Assumes nothing.
use mathlib.Core.Path.{sym, ◌∙◌}
use borrow.Author.Tests.{ne_eqb}
use Rattle.conclusions.proofs.holds.Goals as goal

pub returns-else-bit_at-eq0 : goal.returns-else-bit_at-eq0
returns-else-bit_at-eq0 c = simp (ne_eqb _ _ c.if-bit_at-eq0.false, sym c.bit_at.ensures)

pub returns-then-bit_at-eq0 : goal.returns-then-bit_at-eq0
returns-then-bit_at-eq0 c =
    let e = sym c.bit_at.ensures ∙ c.if-bit_at-eq0.true in
    simp (e, sym c.bit_at-then-bit_at-eq0.ensures)
