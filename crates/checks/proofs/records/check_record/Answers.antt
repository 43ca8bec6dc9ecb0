-- `checks::records::check_record` meets its contract: checks 6 to 8, then 9. Assumes nothing.
use mathlib.Core.Path.{◌≡◌, sym, ap, ◌∙◌}
use mathlib.Core.Bool.{not}
use mathlib.Core.List.{List, [], ◌∷◌}
use Prim.Native.Nat.{ℕ}
use lib.ListN.{length}
use Rattle.operations.specs.declared.Record.{Record}
use Rattle.std.specs.Prelude.{Result, Ok}
use Rattle.checks.specs.declared.refusals.Refusal.{Refusal}
use Rattle.operations.specs.Record.{words_of}
use Rattle.operations.specs.Faults.{fault, named_faults, record_faults, widths_fit}
use Rattle.checks.specs.Check.{placed}
use Rattle.checks.specs.Model.{verdict_model, judged}
use Rattle.checks.proofs.Verdicts.{passed-of-done}
use Rattle.checks.proofs.VerdictParts.{exit, goes_on, stops}
use Rattle.checks.proofs.Naming.{passed-anywhere}
use Rattle.checks.proofs.Recording.{fits-passed, fits_refused}
use Rattle.checks.proofs.records.check_record.Goals as goal

pub returns-in_err-check_named : goal.returns-in_err-check_named
unfolding record_faults
returns-in_err-check_named c =
    ap verdict_model (exit _ _ c.from_residual.ensures.1)
    ∙ sym (stops c.check_named.result (placed c.args.i (named_faults (length c.args.width.now) (words_of c.args.r))) (placed c.args.i (fault (not (widths_fit c.args.width.now (words_of c.args.r))) 9 ∷ [])) c.check_named.ensures _ c.in_err-check_named.was)

pub record_fits-requires : goal.record_fits-requires
record_fits-requires c =
    let passed = passed-of-done (placed c.args.i (named_faults (length c.args.width.now) (words_of c.args.r))) tt tt (sym c.check_named.ensures ∙ ap verdict_model c.in_ok-check_named.was) in
    record { few = c.requires; passed = passed-anywhere c.args.i 0 (named_faults (length c.args.width.now) (words_of c.args.r)) passed }

-- check 9 decides
last : (width : List ℕ) (r : Record) (i : ℕ) (v : Result (Unit {0}) Refusal) → verdict_model v ≡ judged (placed i (named_faults (length width) (words_of r))) → v ≡ Ok tt →
    judged (placed i (record_faults width (words_of r))) ≡ judged (placed i (fault (not (widths_fit width (words_of r))) 9 ∷ []))
unfolding record_faults
last width r i v e is =
    goes_on v (placed i (named_faults (length width) (words_of r))) (placed i (fault (not (widths_fit width (words_of r))) 9 ∷ [])) e is

pub returns : goal.returns
returns c =
    let a = c.args in
    sym (last c.args.width.now c.args.r c.args.i c.check_named.result c.check_named.ensures c.in_ok-check_named.was ∙ fits-passed (widths_fit a.width.now (words_of a.r)) a.i (sym c.record_fits.ensures ∙ c.if-not-record_fits.false))

pub returns-then-not-record_fits : goal.returns-then-not-record_fits
returns-then-not-record_fits c =
    let a = c.args in
    c.refuse.ensures ∙ sym (last c.args.width.now c.args.r c.args.i c.check_named.result c.check_named.ensures c.in_ok-check_named.was ∙ fits_refused (widths_fit a.width.now (words_of a.r)) a.i (sym c.record_fits.ensures ∙ c.if-not-record_fits.true))
