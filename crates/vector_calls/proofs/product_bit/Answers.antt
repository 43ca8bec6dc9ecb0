-- `vector_calls::product_bit` meets its contract: the checks, then the bit. Assumes nothing.
use mathlib.Core.Path.{◌≡◌, sym, ap, ◌∙◌}
use Prim.Native.Nat.{ℕ}
use Rattle.std.specs.Prelude.{Result}
use Rattle.checks.specs.declared.refusals.Refusal.{Refusal}
use Rattle.checks.specs.Check.{done, Passed}
use Rattle.checks.specs.Model.{answer_model, verdict_model, judged}
use Rattle.checks.proofs.Verdicts.{refused-any, done-of-passed, passed-of-done}
use Rattle.checks.proofs.VerdictParts.{exit}
use Rattle.vector_calls.specs.Calls.{product_bit_checks, product_bit_of}
use Rattle.vector_calls.proofs.Granting.{granted}
use Rattle.vector_calls.proofs.product_bit.Goals as goal

-- the checks passed
passed : (w ma va mb vb k : ℕ) (x : Result (Unit {0}) Refusal) → verdict_model x ≡ judged (product_bit_checks w ma va mb vb k) → verdict_model x ≡ done tt
    → Passed (product_bit_checks w ma va mb vb k)
passed w ma va mb vb k x e d = passed-of-done (product_bit_checks w ma va mb vb k) tt tt (sym e ∙ d)

pub product_bit_unchecked-requires : goal.product_bit_unchecked-requires
product_bit_unchecked-requires c =
    let a = c.args in
    let g = granted a.width a.ma a.va a.mb a.vb a.bit (passed a.width a.ma a.va a.mb a.vb a.bit c.check_product_bit.result c.check_product_bit.ensures (ap verdict_model c.in_ok-check_product_bit.was)) in
    record { width = a.width; formed = g.0; below = g.1 }

pub returns-in_err-check_product_bit : goal.returns-in_err-check_product_bit
unfolding product_bit_of
returns-in_err-check_product_bit c =
    let a = c.args in
    ap answer_model (exit _ _ c.from_residual.ensures.1)
    ∙ sym (refused-any (product_bit_checks a.width a.ma a.va a.mb a.vb a.bit) tt _ _ _
    (sym c.check_product_bit.ensures ∙ ap verdict_model c.in_err-check_product_bit.was))

pub returns : goal.returns
unfolding product_bit_of
returns c =
    let a = c.args in
    let P = passed a.width a.ma a.va a.mb a.vb a.bit c.check_product_bit.result c.check_product_bit.ensures (ap verdict_model c.in_ok-check_product_bit.was) in
    let g = granted a.width a.ma a.va a.mb a.vb a.bit P in
    ap done (c.product_bit_unchecked.ensures a.width g.1 g.0.first g.0.second)
    ∙ sym (done-of-passed (product_bit_checks a.width a.ma a.va a.mb a.vb a.bit) _ P)
