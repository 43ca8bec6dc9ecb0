-- `lines::opening::opening_of`, with either header and without. Assumes nothing.
use mathlib.Core.Path.{◌∙◌}
use Rattle.lines.proofs.Headers.{with_second, with-third, without-header}
use Rattle.lines.proofs.opening.opening_of.Goals as goal

pub returns-then-is_headed : goal.returns-then-is_headed
returns-then-is_headed c = c.after_header.ensures ∙ with_second c.args.text.now c.is_headed.result c.is_headed.ensures c.if-is_headed.true

pub returns-then-is_headed-2 : goal.returns-then-is_headed-2
returns-then-is_headed-2 c = c.after_header-then-is_headed-2.ensures ∙ with-third c.args.text.now c.is_headed-2.result c.is_headed-2.ensures c.if-is_headed-2.true

pub returns : goal.returns
returns c =
    without-header c.args.text.now c.is_headed.result c.is_headed-2.result c.is_headed.ensures c.is_headed-2.ensures c.if-is_headed.false c.if-is_headed-2.false
