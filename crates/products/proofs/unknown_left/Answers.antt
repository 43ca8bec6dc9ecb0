-- `unknown_left` meets its contract. Assumes nothing.
use native.Mathlib.Nat.{lt_of_le_of_lt}
use lib.Bits.{and_le_l}
use Rattle.products.proofs.Unsettled.{granted-part, known-left}
use Rattle.products.proofs.unknown_left.Goals as goal

pub unknown_among-requires : goal.unknown_among-requires
unknown_among-requires c = let a = c.args in granted-part a.ma a.va a.mb a.vb a.unsettled _ c.requires

pub returns : goal.returns
returns c w F h =
    let a = c.args in
    let k = c.known_high in
    known-left w a.ma a.va a.mb a.vb a.unsettled F h k.result c.unknown_among.result k.type_inv k.ensures
    (c.unknown_among.ensures w F (lt_of_le_of_lt (and_le_l a.unsettled _) h))
