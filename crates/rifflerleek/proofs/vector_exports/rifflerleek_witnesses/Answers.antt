-- `rifflerleek::rifflerleek_witnesses` meets its contract: what witnesses answers, in the host's second struct. Assumes nothing.
use mathlib.Core.Path.{refl, sym, ap, subst, ◌∙◌}
use native.Mathlib.Omega.{arith}
use Rattle.witness_search.specs.declared.Pair.{Pair}
use Rattle.checks.specs.Check.{Answer}
use Rattle.checks.specs.Model.{answer_model}
use Rattle.vector_calls.specs.Model.{refusal_in}
use Rattle.std.specs.Prelude.{Result}
use Rattle.checks.specs.declared.refusals.Refusal.{Refusal}
use Rattle.rifflerleek.specs.declared.vector_exports.FourNumbers.{FourNumbers}
use Rattle.rifflerleek.specs.Host.{FourAnswers}
use Rattle.rifflerleek.proofs.Numbered.{witness-refused}
use Rattle.rifflerleek.proofs.vector_exports.rifflerleek_witnesses.Goals as goal

-- two pairs in the struct
abbrev hosted : Pair → Pair → FourNumbers
hosted zero one = record { refusal = 0; place = 0; first = zero.a; second = zero.b; third = one.a; fourth = one.b }

pub returns-in-Ok : goal.returns-in-Ok
returns-in-Ok c =
    let j = ap (λ (x : Result (Pair × Pair) Refusal). refusal_in (answer_model x)) (sym c.in-Ok.is) ∙ c.witnesses.ensures.refusals in
    record {
      refusals = subst (λ (x : Answer (Unit {0})). FourAnswers x (hosted c.in-Ok.zero c.in-Ok.one)) j (refl, refl);
      pairs = λ e. c.witnesses.ensures.pairs _ _ (ap answer_model c.in-Ok.is);
    }

pub returns-in-Err : goal.returns-in-Err
returns-in-Err c =
    let a = c.args in
    let j = ap (λ (x : Result (Pair × Pair) Refusal). refusal_in (answer_model x)) (sym c.in-Err.is) ∙ c.witnesses.ensures.refusals in
    record {
      refusals = subst (λ (x : Answer (Unit {0})). FourAnswers x c.no_numbers.result) j c.no_numbers.ensures;
      pairs = λ e.
          let l = witness-refused a.kind a.width a.mask_a a.value_a a.mask_b a.value_b a.bit _ _ (sym j) in
          let n = ap (λ (x : FourNumbers). x.refusal) c.no_numbers.ensures in
          absurd (omega arith);
    }
