-- `printing::put::put_letters`: the letters of the lower bits, put at the place reached, make up the whole. Assumes nothing.
use mathlib.Core.Path.{refl}
use mathlib.Core.List.{[], ◌∷◌}
use Prim.Native.Nat.{◌-◌}
use native.Mathlib.Omega.{arith}
use Rattle.grammar.specs.Print.{letters_of}
use Rattle.printing.proofs.Puts.{put_byte, begin, step-on, room-on, done_on}
use Rattle.printing.proofs.PutWords.{letters-on, letters-end}
use Rattle.printing.proofs.put.put_letters.Goals as goal

pub loop-k-init : goal.loop-k-init
loop-k-init c = (omega arith, begin c.args.out.now c.args.at (letters_of c.args.w c.args.m c.args.v) (letters_of c.args.w c.args.m c.args.v) refl)

pub letter_of-requires : goal.letter_of-requires
letter_of-requires c = omega (arith, c.requires.0)

pub bounds-out-to : goal.bounds-out-to
bounds-out-to c =
    omega (arith, room-on (c.letter_of.result ∷ []) (letters_of (c.loop-k.k - 1) c.args.m c.args.v) (letters-on c.loop-k.k c.args.m c.args.v c.letter_of.result (omega arith) c.letter_of.ensures) c.requires.1 c.loop-k.invariant.1)

pub overflow_add-to : goal.overflow_add-to
overflow_add-to c =
    omega (arith, room-on (c.letter_of.result ∷ []) (letters_of (c.loop-k.k - 1) c.args.m c.args.v) (letters-on c.loop-k.k c.args.m c.args.v c.letter_of.result (omega arith) c.letter_of.ensures) c.requires.1 c.loop-k.invariant.1)

pub loop-k-preserved : goal.loop-k-preserved
loop-k-preserved c =
    (omega arith, step-on (c.letter_of.result ∷ []) (letters_of (c.loop-k.k - 1) c.args.m c.args.v) (letters-on c.loop-k.k c.args.m c.args.v c.letter_of.result (omega arith) c.letter_of.ensures) c.loop-k.invariant.1 (put_byte c.loop-k.out c.loop-k.to c.letter_of.result))

pub returns : goal.returns
returns c =
    done_on (letters-end c.loop-k.k c.args.m c.args.v c.loop-k-test.false) c.loop-k.invariant.1
