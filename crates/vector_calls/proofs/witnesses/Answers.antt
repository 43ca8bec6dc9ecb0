-- `vector_calls::witnesses` meets its contract: the checks, the bit, and a search for each value. Assumes nothing.
use mathlib.Core.Path.{◌≡◌, refl, sym, ap, subst, ◌∙◌}
use Prim.Native.Nat.{ℕ}
use native.Mathlib.Omega.{arith}
use borrow.Author.Rules.{rules}
use lib.Dec.{T, T_not}
use Rattle.std.proofs.Common.{Result, Ok, Err}
use Rattle.std.specs.Result.{IsOk}
use Rattle.std.proofs.lemmas.Result.{MatchResult-at_ok}
use Rattle.vectors.specs.declared.OutputBit.{OutputBit}
use Rattle.vectors.specs.OutputBits.{output_bit}
use Rattle.operations.specs.Kinds.{kind_of}
use Rattle.operations.specs.Result.{result_of}
use Rattle.witness_search.specs.declared.Pair.{Pair}
use Rattle.witness_search.specs.declared.arithmetic.Arithmetic.{Arithmetic}
use Rattle.witness_search.specs.declared.arithmetic.OtherKind.{OtherKind}
use Rattle.witness_search.specs.Witness.{add_sub_mul, number_of, NamesArithmetic}
use Rattle.witness_search.specs.Search.{Asked, Sought}
use Rattle.checks.specs.declared.refusals.Refusal.{Refusal}
use Rattle.checks.specs.Check.{done, placed, Passed}
use Rattle.checks.specs.Model.{answer_model, verdict_model, judged}
use Rattle.checks.proofs.Verdicts.{passed-of-done, done-same, not_done}
use Rattle.checks.proofs.VerdictParts.{exit, stops}
use Rattle.vector_calls.specs.Calls.{both_rows}
use Rattle.vector_calls.specs.Witnesses.{known_faults, operation_faults, witness_checks, Unsettles}
use Rattle.vector_calls.specs.Model.{refusal_in}
use Rattle.vector_calls.proofs.Granting.{asked}
use Rattle.vector_calls.proofs.Unsettled.{not-unknown, known-refused, unknown-done, either-sought}
use Rattle.vector_calls.proofs.witnesses.Goals as goal

-- the first checks passed
passed : (kind w ma va mb vb k : ℕ) (x : Result (Unit {0}) Refusal) → verdict_model x ≡ judged (placed 0 (operation_faults kind w ma va mb vb k)) → verdict_model x ≡ done tt
    → Passed (placed 0 (operation_faults kind w ma va mb vb k))
passed kind w ma va mb vb k x e d = passed-of-done (placed 0 (operation_faults kind w ma va mb vb k)) tt tt (sym e ∙ d)

-- a kind by name has the number that it is named for
number-is : (kind : ℕ) (r : Result Arithmetic OtherKind) (k : Arithmetic) → NamesArithmetic kind r → r ≡ Ok k → number_of k ≡ kind
number-is kind r k h e = (MatchResult-at_ok _ _ k e h).1

is-named : (kind : ℕ) (r : Result Arithmetic OtherKind) → NamesArithmetic kind r → T (add_sub_mul kind) → IsOk r
is-named kind (Ok k) h t = refl
is-named kind (Err e) h t = absurd (T_not (add_sub_mul kind) h.0 t)

-- the bit of the kind by name, by its number
bit-by : (w ma va mb vb k : ℕ) {m n : ℕ} → m ≡ n → {x : OutputBit} → x ≡ output_bit (result_of (kind_of m) w 0 (both_rows w ma va mb vb)) k
    → x ≡ output_bit (result_of (kind_of n) w 0 (both_rows w ma va mb vb)) k
bit-by w ma va mb vb k e f = f ∙ ap (λ (n : ℕ). output_bit (result_of (kind_of n) w 0 (both_rows w ma va mb vb)) k) e

-- a refusal of the first checks
pub returns-in_err-check_operation : goal.returns-in_err-check_operation
unfolding witness_checks
returns-in_err-check_operation c =
    let a = c.args in
    let e = exit _ _ c.from_residual.ensures.1 in
    record {
      refusals = ap (λ (x : Result (Pair × Pair) Refusal). refusal_in (answer_model x)) e ∙ sym (stops c.check_operation.result (placed 0 (operation_faults a.kind a.width a.ma a.va a.mb a.vb a.bit))
          (placed 0 (known_faults a.kind a.width a.ma a.va a.mb a.vb a.bit)) c.check_operation.ensures _ c.in_err-check_operation.was);
      pairs = λ zero one d. absurd (not_done _ _ (zero, one) (sym (ap answer_model e) ∙ d));
    }

pub unwrap-operation-requires : goal.unwrap-operation-requires
unwrap-operation-requires c =
    let a = c.args in
    let P = passed a.kind a.width a.ma a.va a.mb a.vb a.bit c.check_operation.result c.check_operation.ensures (ap verdict_model c.in_ok-check_operation.was) in
    is-named a.kind c.try_from.result c.try_from.ensures (asked a.width a.ma a.va a.mb a.vb a.kind a.bit P).kind_is

pub operation_bit-requires : goal.operation_bit-requires
operation_bit-requires c =
    let a = c.args in
    let e = number-is a.kind _ _ c.try_from.ensures c.unwrap-operation.ensures in
    subst (λ (n : ℕ). Asked n a.width a.bit (record { a = record { mask = a.ma; value = a.va }; b = record { mask = a.mb; value = a.vb } })) (sym e)
    (asked a.width a.ma a.va a.mb a.vb a.kind a.bit (passed a.kind a.width a.ma a.va a.mb a.vb a.bit c.check_operation.result c.check_operation.ensures (ap verdict_model c.in_ok-check_operation.was)))

-- the bit is known
pub returns-in_default : goal.returns-in_default
returns-in_default c =
    let a = c.args in
    let x = c.operation_bit in
    let e = number-is a.kind _ _ c.try_from.ensures c.unwrap-operation.ensures in
    let P = passed a.kind a.width a.ma a.va a.mb a.vb a.bit c.check_operation.result c.check_operation.ensures (ap verdict_model c.in_ok-check_operation.was) in
    record {
      refusals = sym (known-refused a.kind a.width a.ma a.va a.mb a.vb a.bit x.result (bit-by a.width a.ma a.va a.mb a.vb a.bit e x.ensures) P (not-unknown x.result (search rules)));
      pairs = λ zero one e. absurd (not_done 16 0 (zero, one) e);
    }

pub witness-zero-requires : goal.witness-zero-requires
witness-zero-requires c =
    let a = c.args in
    let x = c.operation_bit in
    let e = number-is a.kind _ _ c.try_from.ensures c.unwrap-operation.ensures in
    let P = passed a.kind a.width a.ma a.va a.mb a.vb a.bit c.check_operation.result c.check_operation.ensures (ap verdict_model c.in_ok-check_operation.was) in
    subst (λ (n : ℕ). Sought n a.width a.bit 0 (record { a = record { mask = a.ma; value = a.va }; b = record { mask = a.mb; value = a.vb } })) (sym e)
    (either-sought a.kind a.width a.ma a.va a.mb a.vb a.bit x.result (bit-by a.width a.ma a.va a.mb a.vb a.bit e x.ensures) (asked a.width a.ma a.va a.mb a.vb a.kind a.bit P) c.in-Unknown.is 0 (omega arith))

pub witness-one-requires : goal.witness-one-requires
witness-one-requires c =
    let a = c.args in
    let x = c.operation_bit in
    let e = number-is a.kind _ _ c.try_from.ensures c.unwrap-operation.ensures in
    let P = passed a.kind a.width a.ma a.va a.mb a.vb a.bit c.check_operation.result c.check_operation.ensures (ap verdict_model c.in_ok-check_operation.was) in
    subst (λ (n : ℕ). Sought n a.width a.bit 1 (record { a = record { mask = a.ma; value = a.va }; b = record { mask = a.mb; value = a.vb } })) (sym e)
    (either-sought a.kind a.width a.ma a.va a.mb a.vb a.bit x.result (bit-by a.width a.ma a.va a.mb a.vb a.bit e x.ensures) (asked a.width a.ma a.va a.mb a.vb a.kind a.bit P) c.in-Unknown.is 1 (omega arith))

pub returns : goal.returns
returns c =
    let a = c.args in
    let x = c.operation_bit in
    let e = number-is a.kind _ _ c.try_from.ensures c.unwrap-operation.ensures in
    let P = passed a.kind a.width a.ma a.va a.mb a.vb a.bit c.check_operation.result c.check_operation.ensures (ap verdict_model c.in_ok-check_operation.was) in
    record {
      refusals = sym (unknown-done a.kind a.width a.ma a.va a.mb a.vb a.bit x.result (bit-by a.width a.ma a.va a.mb a.vb a.bit e x.ensures) P c.in-Unknown.is);
      pairs = λ zero one d.
          subst (λ (q : Pair × Pair). Unsettles a.kind a.width a.ma a.va a.mb a.vb a.bit q.0 q.1)
          (done-same (c.witness-zero.result, c.witness-one.result) (zero, one) d)
          (subst (λ (n : ℕ). Unsettles n a.width a.ma a.va a.mb a.vb a.bit c.witness-zero.result c.witness-one.result) e
          (record { makes_zero = c.witness-zero.ensures; makes_one = c.witness-one.ensures }));
    }
