-- `logic::movement::ashr_plane` meets its contract, by `ashr-sext`. Assumes nothing.
use Rattle.std.proofs.Common.{◌-◌, ◌∙◌, arith}
use Rattle.logic.proofs.Planes.{ashr-sext, shifted-below}
use Rattle.logic.proofs.movement.ashr_plane.Goals as goal

pub sext_plane-requires : goal.sext_plane-requires
sext_plane-requires c =
    let a = c.args in
    let h = c.requires in
    (omega arith, omega arith, h.1, shifted-below a.w (a.w - a.p) a.p a.x (omega arith) h.2)

pub returns-then-p-w : goal.returns-then-p-w
returns-then-p-w c =
    let a = c.args in
    c.sext_plane.ensures ∙ ashr-sext a.w (a.w - a.p) a.p a.p a.x (omega arith) (omega arith)

pub sext_plane-requires-2 : goal.sext_plane-requires-2
sext_plane-requires-2 c =
    let a = c.args in
    let h = c.requires in
    (omega arith, h.0, h.1, shifted-below a.w 1 (a.w - 1) a.x (omega arith) h.2)

pub returns : goal.returns
returns c =
    let a = c.args in
    c.sext_plane-2.ensures ∙ ashr-sext a.w 1 a.p (a.w - 1) a.x (omega arith) (omega arith)
