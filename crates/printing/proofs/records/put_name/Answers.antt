-- `printing::records::put_name`: what is left of the name, put at the place reached, makes up the whole. Assumes nothing.
use mathlib.Core.Path.{refl}
use mathlib.Core.List.{[], ◌∷◌}
use Prim.Native.Nat.{◌+◌}
use native.Mathlib.Omega.{arith}
use lib.ListN.{drop}
use Rattle.operations.specs.Kinds.{kind_of}
use Rattle.printing.proofs.Puts.{put_byte, begin, step-on, room-on, done_on}
use Rattle.printing.proofs.PutWords.{word_on, word_end}
use Rattle.printing.proofs.records.put_name.Goals as goal

pub name_len-len-requires : goal.name_len-len-requires
name_len-len-requires c = c.requires.0

pub loop-i-init : goal.loop-i-init
loop-i-init c =
    (c.name_len-len.ensures, omega arith, begin c.args.out.now c.args.at (kind_of c.args.k).name (kind_of c.args.k).name refl)

pub name_byte-requires : goal.name_byte-requires
name_byte-requires c = (c.requires.0, omega arith)

pub bounds-out-to : goal.bounds-out-to
bounds-out-to c =
    omega (arith, room-on (c.name_byte.result ∷ []) (drop (c.loop-i.i + 1) (kind_of c.args.k).name) (word_on (kind_of c.args.k).name c.loop-i.i c.name_byte.result (omega arith) c.name_byte.ensures) c.requires.1 c.loop-i.invariant.2)

pub overflow_add-to : goal.overflow_add-to
overflow_add-to c =
    omega (arith, room-on (c.name_byte.result ∷ []) (drop (c.loop-i.i + 1) (kind_of c.args.k).name) (word_on (kind_of c.args.k).name c.loop-i.i c.name_byte.result (omega arith) c.name_byte.ensures) c.requires.1 c.loop-i.invariant.2)

pub loop-i-preserved : goal.loop-i-preserved
loop-i-preserved c =
    (c.loop-i.invariant.0, omega arith, step-on (c.name_byte.result ∷ []) (drop (c.loop-i.i + 1) (kind_of c.args.k).name) (word_on (kind_of c.args.k).name c.loop-i.i c.name_byte.result (omega arith) c.name_byte.ensures) c.loop-i.invariant.2 (put_byte c.loop-i.out c.loop-i.to c.name_byte.result))

pub returns : goal.returns
returns c =
    done_on (word_end (kind_of c.args.k).name c.loop-i.i (omega arith)) c.loop-i.invariant.2
