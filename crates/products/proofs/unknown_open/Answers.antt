-- `unknown_open` meets its contract. Assumes nothing.
use mathlib.Core.Path.{◌≡◌, sym, ap, ◌∙◌}
use Prim.Native.Nat.{ℕ, ◌-◌, ◌^◌}
use native.Mathlib.Nat.{lt_of_le_of_lt}
use lib.Bits.{bit_and, bit_or, and_zero_l, or_zero_r, and_le_l}
use Rattle.columns.specs.Settled.{product_of}
use Rattle.products.proofs.Unsettled.{granted-part, settled-or-left}
use Rattle.products.proofs.unknown_open.Goals as goal

-- no column of an empty word is unknown
none : (n m : ℕ) → n ≡ 0 → 0 ≡ bit_and n m
none n m e = sym (and_zero_l m) ∙ ap (λ (x : ℕ). bit_and x m) (sym e)

pub returns-then-unsettled-low-eq0 : goal.returns-then-unsettled-low-eq0
returns-then-unsettled-low-eq0 c w F h = c.unknown_left.ensures w F h

pub returns-then-rest-eq0 : goal.returns-then-rest-eq0
returns-then-rest-eq0 c w F h =
    let a = c.args in
    let b = c.below_cut-low in
    let d = c.unknown_low-found in
    sym (or_zero_r _)
    ∙ settled-or-left w a.ma a.va a.mb a.vb a.unsettled F h d.result b.result 0 d.type_inv b.type_inv (d.ensures b.ensures.0 b.ensures.1)
    (none (bit_and a.unsettled (2 ^ 32 - 1 - bit_or d.result b.result)) (product_of w a.ma a.va a.mb a.vb).mask c.if-rest-eq0.true)

pub unknown_left-requires-2 : goal.unknown_left-requires-2
unknown_left-requires-2 c =
    let a = c.args in
    granted-part a.ma a.va a.mb a.vb a.unsettled _ c.requires

pub returns : goal.returns
returns c w F h =
    let a = c.args in
    let b = c.below_cut-low in
    let d = c.unknown_low-found in
    settled-or-left w a.ma a.va a.mb a.vb a.unsettled F h d.result b.result c.unknown_left-2.result d.type_inv b.type_inv (d.ensures b.ensures.0 b.ensures.1)
    (c.unknown_left-2.ensures w F (lt_of_le_of_lt (and_le_l a.unsettled _) h))
