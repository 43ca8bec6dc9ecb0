-- `lines::opening::is_headed`: the first bytes compared with the header. Assumes nothing.
use mathlib.Core.Path.{sym}
use native.Mathlib.Omega.{arith}
use lib.Seq.{length-take-le}
use Rattle.grammar.specs.Lines.{headed_by}
use Rattle.lines.proofs.Headers.{no_room}
use Rattle.lines.proofs.opening.is_headed.Goals as goal

pub returns-then-text-n : goal.returns-then-text-n
returns-then-text-n c = let a = c.args in no_room a.header.now a.text.now (omega (arith, c.if-text-n.true))

pub returns : goal.returns
unfolding headed_by
returns c = c.is_word.ensures

pub slice_bounds-is_word-end : goal.slice_bounds-is_word-end
slice_bounds-is_word-end c = sym (length-take-le _ _ (omega arith))
