-- `pruning::passes::keep_needed` meets its contract: the marks taken over, then the pass back and the pass forward. Assumes nothing.
use mathlib.Core.Path.{sym, subst}
use Prim.Native.Nat.{ℕ}
use Rattle.needs.specs.Encoding.{RecordsIn}
use Rattle.pruning.proofs.MovedWords.{passes-done}
use Rattle.pruning.proofs.passes.keep_needed.Goals as goal

pub keep_back-first-requires : goal.keep_back-first-requires
keep_back-first-requires c =
    (c.take_marks.ensures.2, subst (λ (n : ℕ). RecordsIn n c.args.words.now) (sym c.take_marks.ensures.1) c.requires.0)

pub returns : goal.returns
returns c =
    passes-done c.args.words.now c.args.marks.now c.take_marks.new.need c.take_marks.ensures.0 _ _ c.keep_back-first.result c.keep_back-first.ensures c.move_down.ensures
