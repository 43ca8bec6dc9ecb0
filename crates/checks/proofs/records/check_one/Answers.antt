-- `checks::records::check_one` meets its contract: checks 6 to 9 of the record that the words hold, then 10. Assumes nothing.
use mathlib.Core.Path.{sym, ap, subst, ◌∙◌}
use mathlib.Core.Bool.{Bool}
use mathlib.Core.List.{List, []}
use Prim.Native.Nat.{ℕ}
use Rattle.operations.specs.Record.{words_of}
use Rattle.operations.specs.Faults.{record_faults}
use Rattle.checks.specs.Check.{Check, placed}
use Rattle.checks.specs.Table.{record_of}
use Rattle.checks.specs.Model.{lent, verdict_model, judged}
use Rattle.checks.specs.Encoding.{TargetsIn, lock_with}
use Rattle.checks.proofs.Verdicts.{passed-of-done}
use Rattle.checks.proofs.RecordChecks.{record-of-passed, targets-within}
use Rattle.checks.proofs.VerdictParts.{exit, goes_on, stops}
use Rattle.checks.proofs.records.check_one.Goals as goal

abbrev nine : List ℕ → ℕ → List ℕ → List Check
nine width i l = placed i (record_faults width l)

abbrev ten : Bool → List ℕ → ℕ → List ℕ → List Check
ten locked lock i l = lock_with locked lock l i

pub returns-in_err-check_record : goal.returns-in_err-check_record
returns-in_err-check_record c =
    ap verdict_model (exit _ _ c.from_residual.ensures.1) ∙ sym (stops c.check_record.result (nine c.args.t.width.now c.args.i (record_of (lent [] [] [] [] c.args.t.words.now) c.args.i)) (ten c.args.locked c.args.t.lock.now c.args.i (record_of (lent [] [] [] [] c.args.t.words.now) c.args.i)) (c.check_record.ensures ∙ ap (λ (l : List ℕ). judged (nine c.args.t.width.now c.args.i l)) c.record_at-r.ensures) _ c.in_err-check_record.was)

pub check_lock-requires : goal.check_lock-requires
check_lock-requires c =
    let r = c.record_at-r.result in
    let passed = passed-of-done (nine c.args.t.width.now c.args.i (words_of r)) tt tt (sym c.check_record.ensures ∙ ap verdict_model c.in_ok-check_record.was) in
    let R = record-of-passed c.args.t.width.now (words_of r) c.args.i passed in
    (R.kind_known, subst (λ (n : ℕ). TargetsIn n r) (sym c.requires.1) (targets-within c.args.t.width.now r R))

pub returns : goal.returns
returns c =
    c.check_lock.ensures
    ∙ ap (λ (l : List ℕ). judged (ten c.args.locked c.args.t.lock.now c.args.i l)) c.record_at-r.ensures
    ∙ sym (goes_on c.check_record.result (nine c.args.t.width.now c.args.i (record_of (lent [] [] [] [] c.args.t.words.now) c.args.i)) (ten c.args.locked c.args.t.lock.now c.args.i (record_of (lent [] [] [] [] c.args.t.words.now) c.args.i)) (c.check_record.ensures ∙ ap (λ (l : List ℕ). judged (nine c.args.t.width.now c.args.i l)) c.record_at-r.ensures) c.in_ok-check_record.was)
