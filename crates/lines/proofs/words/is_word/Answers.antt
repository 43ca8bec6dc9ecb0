-- `lines::words::is_word`, by the pairs of bytes. Assumes nothing.
use mathlib.Core.Path.{◌∙◌}
use Rattle.lines.proofs.Compare.{by_pairs}
use Rattle.lines.proofs.words.is_word.Goals as goal

pub returns : goal.returns
returns c = c.eq.ensures ∙ by_pairs c.args.f.now c.args.w.now
