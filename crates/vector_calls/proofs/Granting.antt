-- What the checks of the calls on bare vectors give, once they passed. Assumes nothing.
--   operands-of-passed   well-formed vectors of one width;   bit-of-passed   a bit below it
--   granted              what the routine under product_bit takes for granted
--   asked                what operation_bit takes for granted
use mathlib.Core.List.{◌++◌}
use Prim.Native.Nat.{ℕ, ◌<◌}
use lib.Dec.{nleb→lt}
use Rattle.bits.proofs.Bools.{T_not-not}
use Rattle.columns.specs.Formed.{Formed}
use Rattle.witness_search.specs.Witness.{add_sub_mul}
use Rattle.witness_search.specs.Search.{Asked}
use Rattle.checks.specs.Check.{placed, Passed}
use Rattle.checks.specs.Checks.{width_faults, vector_faults, two_vector_faults, bit_faults}
use Rattle.checks.proofs.Verdicts.{passed-left, passed-right}
use Rattle.checks.proofs.RowChecks.{width-of-passed, vector-of-passed}
use Rattle.vector_calls.specs.Calls.{product_bit_checks}
use Rattle.vector_calls.specs.Witnesses.{kind_faults, operation_faults}

module _ (w ma va mb vb : ℕ) where
  operands-of-passed : Passed (placed 0 (two_vector_faults w ma va mb vb)) → Formed w ma va mb vb
  operands-of-passed P =
      let first = placed 0 (vector_faults w ma va) in
      let second = placed 0 (vector_faults w mb vb) in
      let R = passed-right (placed 0 (width_faults w)) (first ++ second) P in
      record {
        most = (width-of-passed w 0 (passed-left (placed 0 (width_faults w)) (first ++ second) P)).1;
        first = vector-of-passed w ma va 0 (passed-left first second R);
        second = vector-of-passed w mb vb 0 (passed-right first second R);
      }

  bit-of-passed : (k : ℕ) → Passed (placed 0 (bit_faults w k)) → k < w
  bit-of-passed k P = nleb→lt w k P.0

  pub granted : (k : ℕ) → Passed (product_bit_checks w ma va mb vb k) → Formed w ma va mb vb × (k < w)
  unfolding product_bit_checks
  granted k P =
      let operands = placed 0 (two_vector_faults w ma va mb vb) in
      let number = placed 0 (bit_faults w k) in
      (operands-of-passed (passed-left operands number P), bit-of-passed k (passed-right operands number P))

  pub asked : (kind k : ℕ) → Passed (placed 0 (operation_faults kind w ma va mb vb k)) → Asked kind w k (record { a = record { mask = ma; value = va }; b = record { mask = mb; value = vb } })
  asked kind k P =
      let operands = placed 0 (two_vector_faults w ma va mb vb) in
      let operation = placed 0 (kind_faults kind) in
      let number = placed 0 (bit_faults w k) in
      let R = passed-right operands (operation ++ number) P in
      record {
        kind_is = T_not-not (add_sub_mul kind) R.0;
        formed = operands-of-passed (passed-left operands (operation ++ number) P);
        below = bit-of-passed k (passed-right operation number R);
      }
