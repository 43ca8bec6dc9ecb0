-- `printing::put::put_lock`, by the lock. Assumes nothing.
use mathlib.Core.Path.{sym, ap, subst}
use native.Mathlib.Omega.{arith}
use lib.ListN.{length}
use Rattle.printing.specs.Put.{Put}
use Rattle.grammar.proofs.LockWords.{lock-word, open-word}
use Rattle.printing.proofs.put.put_lock.Goals as goal

pub put_word-requires : goal.put_word-requires
put_word-requires c =
    omega (arith, c.requires, ap length (lock-word c.args.lock c.if-lock-eq1.true))

pub returns-then-lock-eq1 : goal.returns-then-lock-eq1
returns-then-lock-eq1 c =
    subst (Put _ _ _ _) (sym (lock-word c.args.lock c.if-lock-eq1.true)) c.put_word.ensures

pub put_word-requires-2 : goal.put_word-requires-2
put_word-requires-2 c =
    omega (arith, c.requires, ap length (open-word c.args.lock c.if-lock-eq1.false))

pub returns : goal.returns
returns c =
    subst (Put _ _ _ _) (sym (open-word c.args.lock c.if-lock-eq1.false)) c.put_word-2.ensures
