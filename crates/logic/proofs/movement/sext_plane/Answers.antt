-- `logic::movement::sext_plane` meets its contract: the number that sext has is the signed number. Assumes nothing.
use Rattle.std.proofs.Common.{◌-◌, ◌^◌, true, sym, ◌∙◌, le_trans, one-mul, arith}
use Rattle.bits.proofs.Words.{shifted_one}
use Rattle.operations.proofs.WideNumbers.{counted-signed}
use Rattle.logic.proofs.movement.sext_plane.Goals as goal

pub extended-requires : goal.extended-requires
extended-requires c = (le_trans c.requires.0 c.requires.1, c.requires.2)

pub returns : goal.returns
returns c =
    let a = c.args in
    let h = c.requires in
    c.extended.ensures true a.wa (shifted_one 32 (a.wa - 1) (omega arith) ∙ sym (one-mul (2 ^ (a.wa - 1)))) h.0 h.1 h.3
    ∙ counted-signed a.wt a.wa a.x h.0 h.1 h.3
