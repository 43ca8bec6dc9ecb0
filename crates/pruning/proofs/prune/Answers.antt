-- `pruning::prune` meets its contract: what the checks refuse, or both passes with room of their own. Assumes nothing.
use mathlib.Core.Path.{sym, ap, ◌∙◌}
use Prim.Native.Nat.{ℕ}
use native.Mathlib.Omega.{arith}
use Rattle.std.specs.Prelude.{Result}
use Rattle.checks.specs.declared.refusals.Refusal.{Refusal}
use Rattle.checks.specs.Model.{lent, verdict_model}
use Rattle.checks.proofs.Verdicts.{passed-of-done}
use Rattle.checks.proofs.VerdictParts.{exit}
use Rattle.needs.specs.Prune.{prune_checks}
use Rattle.needs.proofs.Answers.{accepted-of, marks-even, records-in, prune-refused, prune-done, prune-meets}
use Rattle.pruning.specs.Model.{pruned}
use Rattle.pruning.proofs.MovedWords.{zeros-at}
use Rattle.pruning.proofs.prune.Goals as goal

pub returns-in_err-check_prune : goal.returns-in_err-check_prune
returns-in_err-check_prune c =
    let a = c.args in
    let t = lent a.width.now a.lock.now a.mask.now a.value.now a.words.now in
    let e = exit _ _ c.from_residual.ensures.1 in
    let m = prune-meets t a.marks.now _ (ap (λ (r : Result ℕ Refusal). pruned r a.words.now) e ∙ prune-refused t a.marks.now _ _ (sym c.check_prune.ensures ∙ ap verdict_model c.in_err-check_prune.was)) in
    record { effect = m.0; keeps = m.1 }

pub keep_needed-requires : goal.keep_needed-requires
keep_needed-requires c =
    let a = c.args in
    let t = lent a.width.now a.lock.now a.mask.now a.value.now a.words.now in
    let P = passed-of-done (prune_checks t a.marks.now) tt tt (sym c.check_prune.ensures ∙ ap verdict_model c.in_ok-check_prune.was) in
    let A = accepted-of t a.marks.now P in
    let m = A.table.rows_most in
    let n = marks-even t a.marks.now P in
    (records-in t A 256 A.table.rows_most, record { room = omega arith; empty = zeros-at 256 })

pub returns : goal.returns
returns c =
    let a = c.args in
    let t = lent a.width.now a.lock.now a.mask.now a.value.now a.words.now in
    let P = passed-of-done (prune_checks t a.marks.now) tt tt (sym c.check_prune.ensures ∙ ap verdict_model c.in_ok-check_prune.was) in
    let m = prune-meets t a.marks.now _ (prune-done t a.marks.now P _ c.keep_needed.ensures.0 _ c.keep_needed.ensures.1) in
    record { effect = m.0; keeps = m.1 }
