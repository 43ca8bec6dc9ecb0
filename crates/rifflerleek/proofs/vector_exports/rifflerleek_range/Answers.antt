-- `rifflerleek::rifflerleek_range` meets its contract: what range answers, in the host's second struct. Assumes nothing.
use mathlib.Core.Path.{refl, subst}
use Rattle.std.specs.Prelude.{Result}
use Rattle.range_search.specs.declared.Range.{Range}
use Rattle.checks.specs.declared.refusals.Refusal.{Refusal}
use Rattle.checks.specs.Model.{answer_model}
use Rattle.vector_calls.proofs.RangeClaims.{Claims}
use Rattle.rifflerleek.proofs.HostRanges.{range-hosted}
use Rattle.rifflerleek.proofs.vector_exports.rifflerleek_range.Goals as goal

pub returns-in-Ok : goal.returns-in-Ok
returns-in-Ok c =
    let a = c.args in
    let e = c.range.ensures in
    let s = subst (λ (x : Result Range Refusal). Claims a.width a.mask a.value a.low a.high (answer_model x)) c.in-Ok.is (e.answer, (e.best, (e.empty, e.runs))) in
    let m = range-hosted a.width a.mask a.value a.low a.high _ s _ refl in
    record { answer = m.0; best = m.1.0; empty = m.1.1.0; runs = m.1.1.1 }

pub returns-in-Err : goal.returns-in-Err
returns-in-Err c =
    let a = c.args in
    let e = c.range.ensures in
    let s = subst (λ (x : Result Range Refusal). Claims a.width a.mask a.value a.low a.high (answer_model x)) c.in-Err.is (e.answer, (e.best, (e.empty, e.runs))) in
    let m = range-hosted a.width a.mask a.value a.low a.high _ s _ c.no_numbers.ensures in
    record { answer = m.0; best = m.1.0; empty = m.1.1.0; runs = m.1.1.1 }
