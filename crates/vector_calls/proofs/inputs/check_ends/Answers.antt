-- `vector_calls::inputs::check_ends` meets its contract. Assumes nothing.
use mathlib.Core.Path.{sym, ◌∙◌, subst}
use Prim.Native.Nat.{ℕ, ◌≤◌, ◌<◌}
use native.Mathlib.Omega.{arith}
use Rattle.bits.proofs.Words.{shifted_one}
use Rattle.vector_calls.proofs.RangeClaims.{end-over, ends-passed}
use Rattle.vector_calls.proofs.inputs.check_ends.Goals as goal

pub returns-then-width-high : goal.returns-then-width-high
returns-then-width-high c =
    let a = c.args in
    c.refuse-then-width-high.ensures ∙ sym (end-over a.width a.low a.high (omega arith) (subst (λ (n : ℕ). n ≤ a.high) (shifted_one 64 c.args.width (let l = c.requires.1 in omega arith)) c.if-width-high.true))

pub returns : goal.returns
returns c =
    let a = c.args in
    sym (ends-passed a.width a.low a.high (omega arith) (subst (λ (n : ℕ). a.high < n) (shifted_one 64 c.args.width (let l = c.requires.1 in omega arith)) c.if-width-high.false))
