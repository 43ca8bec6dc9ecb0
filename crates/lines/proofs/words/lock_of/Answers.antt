-- `lines::words::lock_of`, by the two words. Assumes nothing.
use Rattle.lines.proofs.Compare.{is-locked, is_open, no-lock}
use Rattle.lines.proofs.words.lock_of.Goals as goal

pub returns-then-is_word : goal.returns-then-is_word
returns-then-is_word c = is-locked c.args.f.now c.is_word.result c.is_word.ensures c.if-is_word.true

pub returns-then-is_word-2 : goal.returns-then-is_word-2
returns-then-is_word-2 c =
    is_open c.args.f.now c.is_word.result c.is_word.ensures c.is_word-2.result c.is_word-2.ensures c.if-is_word.false c.if-is_word-2.true

pub returns : goal.returns
returns c =
    no-lock c.args.f.now c.is_word.result c.is_word.ensures c.is_word-2.result c.is_word-2.ensures c.if-is_word.false c.if-is_word-2.false
