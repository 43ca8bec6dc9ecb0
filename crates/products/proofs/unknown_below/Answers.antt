-- `unknown_below` meets its contract. Assumes nothing.
use mathlib.Core.Path.{◌≡◌, sym, ap, subst, ◌∙◌}
use Prim.Native.Nat.{ℕ, ◌-◌, ◌^◌, ◌<◌}
use lib.Bits.{bit_and, bit_or, and_zero_l, or_zero_r, mask_lt}
use Rattle.bits.specs.Bit.{bit}
use Rattle.columns.specs.Settled.{product_of}
use Rattle.products.proofs.Unsettled.{granted-below, settled-or-worked}
use Rattle.products.proofs.unknown_below.Goals as goal

pub returns-then-without_lowest-eq0 : goal.returns-then-without_lowest-eq0
returns-then-without_lowest-eq0 c k h = sym (c.by_every_choice.ensures c.args.w c.requires.1 k h)

-- a word cut to the width is below 2 ^ w
cut-below : (n ones w : ℕ) → ones ≡ 2 ^ w - 1 → bit_and n ones < 2 ^ w
cut-below n ones w e = subst (λ (x : ℕ). bit_and n x < 2 ^ w) (sym e) (mask_lt n w)

pub returns-then-unsettled-eq0 : goal.returns-then-unsettled-eq0
returns-then-unsettled-eq0 c k h =
    let a = c.args in
    let d = c.unknown_columns-seen in
    let n = c.known_low in
    let m = (product_of a.w a.ma a.va a.mb a.vb).mask in
    ap (λ (x : ℕ). bit x k) (sym (or_zero_r d.result))
    ∙ settled-or-worked a.w a.ma a.va a.mb a.vb d.result n.result _ 0 c.requires.1 d.type_inv n.type_inv d.ensures n.ensures
    (ap (bit_and (2 ^ 32 - 1 - bit_or d.result n.result)) c.width_mask.ensures) (sym (and_zero_l m) ∙ ap (λ (x : ℕ). bit_and x m) (sym c.if-unsettled-eq0.true)) k h

pub unknown_open-requires : goal.unknown_open-requires
unknown_open-requires c =
    let a = c.args in
    let left = 2 ^ 32 - 1 - bit_or c.unknown_columns-seen.result c.known_low.result in
    granted-below a.ma a.va a.mb a.vb a.w _ c.requires.1 (cut-below left c.width_mask.result a.w c.width_mask.ensures)

pub returns : goal.returns
returns c =
    let a = c.args in
    let d = c.unknown_columns-seen in
    let n = c.known_low in
    let left = 2 ^ 32 - 1 - bit_or d.result n.result in
    settled-or-worked a.w a.ma a.va a.mb a.vb d.result n.result _ c.unknown_open.result c.requires.1 d.type_inv n.type_inv d.ensures n.ensures
    (ap (bit_and left) c.width_mask.ensures) (c.unknown_open.ensures a.w c.requires.1 (cut-below left c.width_mask.result a.w c.width_mask.ensures))
