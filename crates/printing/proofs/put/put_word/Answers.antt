-- `printing::put::put_word`: what is left of the word, put at the place reached, makes up the whole. Assumes nothing.
use mathlib.Core.Path.{refl}
use mathlib.Core.List.{[], ◌∷◌}
use Prim.Native.Nat.{◌+◌}
use native.Mathlib.Omega.{arith}
use lib.ListN.{get_or, drop}
use Rattle.printing.proofs.Puts.{put_byte, begin, step-on, room-on, done_on}
use Rattle.printing.proofs.PutWords.{word_on, word_end}
use Rattle.printing.proofs.put.put_word.Goals as goal

pub loop-i-init : goal.loop-i-init
loop-i-init c = (omega arith, begin c.args.out.now c.args.at c.args.w.now c.args.w.now refl)

pub bounds-out-to : goal.bounds-out-to
bounds-out-to c =
    omega (arith, room-on (get_or c.args.w.now c.loop-i.i 0 ∷ []) (drop (c.loop-i.i + 1) c.args.w.now) (word_on c.args.w.now c.loop-i.i _ (omega arith) refl) c.requires c.loop-i.invariant.1)

pub overflow_add-to : goal.overflow_add-to
overflow_add-to c =
    omega (arith, room-on (get_or c.args.w.now c.loop-i.i 0 ∷ []) (drop (c.loop-i.i + 1) c.args.w.now) (word_on c.args.w.now c.loop-i.i _ (omega arith) refl) c.requires c.loop-i.invariant.1)

pub loop-i-preserved : goal.loop-i-preserved
loop-i-preserved c =
    (omega arith, step-on (get_or c.args.w.now c.loop-i.i 0 ∷ []) (drop (c.loop-i.i + 1) c.args.w.now) (word_on c.args.w.now c.loop-i.i _ (omega arith) refl) c.loop-i.invariant.1 (put_byte c.loop-i.out c.loop-i.to (get_or c.args.w.now c.loop-i.i 0)))

pub returns : goal.returns
returns c = done_on (word_end c.args.w.now c.loop-i.i c.loop-i-test.false) c.loop-i.invariant.1
