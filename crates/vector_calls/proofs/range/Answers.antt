-- `vector_calls::range` meets its contract: the checks, then the search. Assumes nothing.
use mathlib.Core.Path.{◌≡◌, sym, ap, ◌∙◌}
use Prim.Native.Nat.{ℕ, ◌^◌, ◌<◌}
use native.Mathlib.Nat.{lt_of_lt_of_le}
use native.Mathlib.Omega.{arith}
use lib.Pow.{pow_mono}
use Rattle.std.specs.Prelude.{Result}
use Rattle.checks.specs.declared.refusals.Refusal.{Refusal}
use Rattle.checks.specs.Check.{done, placed, Passed}
use Rattle.checks.specs.Model.{answer_model, verdict_model, judged}
use Rattle.checks.proofs.Verdicts.{passed-of-done}
use Rattle.checks.proofs.VerdictParts.{exit}
use Rattle.vector_calls.specs.Ranges.{input_faults}
use Rattle.vector_calls.proofs.RangeClaims.{Given, given-of-passed, claims-refused, claims-found}
use Rattle.vector_calls.proofs.range.Goals as goal

-- the first checks passed
passed : (w m v low high : ℕ) (x : Result (Unit {0}) Refusal) → verdict_model x ≡ judged (placed 0 (input_faults w m v low high)) → verdict_model x ≡ done tt
    → Passed (placed 0 (input_faults w m v low high))
passed w m v low high x e d = passed-of-done (placed 0 (input_faults w m v low high)) tt tt (sym e ∙ d)

given : (w m v low high : ℕ) (x : Result (Unit {0}) Refusal) → verdict_model x ≡ judged (placed 0 (input_faults w m v low high)) → verdict_model x ≡ done tt
    → Given w m v low high
given w m v low high x e d = given-of-passed w m v low high (passed w m v low high x e d)

-- both ends are words
high_word : (w m v low high : ℕ) → Given w m v low high → high < 2 ^ 32
high_word w m v low high G = lt_of_lt_of_le G.high_below (pow_mono G.width_most)

-- a refusal of the first checks
pub returns-in_err-check_range : goal.returns-in_err-check_range
returns-in_err-check_range c =
    let a = c.args in
    let r = claims-refused a.width a.mask a.value a.low a.high _ _ (sym c.check_range.ensures ∙ ap verdict_model c.in_err-check_range.was) _ (ap answer_model (exit _ _ c.from_residual.ensures.1)) in
    record { answer = r.0; best = r.1.0; empty = r.1.1.0; runs = r.1.1.1 }

pub overflow_cast-low : goal.overflow_cast-low
overflow_cast-low c =
    let a = c.args in
    let G = given a.width a.mask a.value a.low a.high c.check_range.result c.check_range.ensures (ap verdict_model c.in_ok-check_range.was) in
    let h = high_word a.width a.mask a.value a.low a.high G in
    let o = G.ordered in
    omega arith

pub overflow_cast-high : goal.overflow_cast-high
overflow_cast-high c =
    let a = c.args in
    let G = given a.width a.mask a.value a.low a.high c.check_range.result c.check_range.ensures (ap verdict_model c.in_ok-check_range.was) in
    let h = high_word a.width a.mask a.value a.low a.high G in
    omega arith

pub in_range-requires : goal.in_range-requires
in_range-requires c =
    let a = c.args in
    let G = given a.width a.mask a.value a.low a.high c.check_range.result c.check_range.ensures (ap verdict_model c.in_ok-check_range.was) in
    (G.width_most, G.formed)

pub returns : goal.returns
returns c =
    let a = c.args in
    let P = passed a.width a.mask a.value a.low a.high c.check_range.result c.check_range.ensures (ap verdict_model c.in_ok-check_range.was) in
    let r = claims-found a.width a.mask a.value a.low a.high P _ c.in_range.ensures _ c.ok_or.ensures.value in
    record { answer = r.0; best = r.1.0; empty = r.1.1.0; runs = r.1.1.1 }
