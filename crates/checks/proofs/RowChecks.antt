-- A row's checks 4 and 5 passed: what that gives, both ways. Assumes nothing.
use mathlib.Core.Path.{◌≡◌, sym, ap, ◌∙◌}
use mathlib.Core.Bool.{not}
use Prim.Native.Nat.{ℕ, ◌≤◌}
use native.Mathlib.Omega.{arith}
use lib.Dec.{T, T_not, not_T, leb, eqb, nltb→le, nleb→lt, eqb→eq, leb→le}
use lib.Arith.{le→nltb, lt→nleb}
use lib.ListN.{get_or}
use lib.Bits.{bit_and}
use Rattle.bits.proofs.Bools.{eq→eqb, T_not-not, not_not_T}
use Rattle.bits.specs.Limits.{width_limit}
use Rattle.vectors.specs.Row.{row, WellFormed}
use Rattle.vectors.proofs.Rows.{apart-of-and, and-of-apart}
use Rattle.operations.specs.Record.{width_at}
use Rattle.std.specs.Prelude.{Result, Ok}
use Rattle.checks.specs.declared.refusals.Refusal.{Refusal}
use Rattle.checks.specs.Check.{placed, Passed}
use Rattle.checks.specs.Model.{verdict_model, judged}
use Rattle.checks.specs.Table.{Table}
use Rattle.checks.specs.Checks.{width_faults, vector_faults, row_faults_at}
use Rattle.checks.specs.Accepted.{RowPassed}
use Rattle.checks.proofs.Verdicts.{passed-of-done}

pub positive : (n : ℕ) → T (not (eqb n 0)) → 1 ≤ n
positive n p = nleb→lt n 0 (not_T (leb n 0) (λ q. T_not (eqb n 0) p (eq→eqb (zero_of n (leb→le n 0 q)))))
  where
    zero_of : (n : ℕ) → n ≤ 0 → n ≡ 0
    zero_of n h = omega arith

pub not-zero : (n : ℕ) → 1 ≤ n → T (not (eqb n 0))
not-zero n h = not_T (eqb n 0) (λ q. let e = eqb→eq n 0 q in omega arith)

pub width-of-passed : (w j : ℕ) → Passed (placed j (width_faults w)) → (1 ≤ w) × (w ≤ width_limit)
width-of-passed w j P = (positive w P.0, nltb→le _ _ P.1.0)

-- the same of a verdict that is clear
pub width-of-clear : (w j : ℕ) (r : Result (Unit {0}) Refusal) → verdict_model r ≡ judged (placed j (width_faults w)) → r ≡ Ok tt → (1 ≤ w) × (w ≤ width_limit)
width-of-clear w j r e p = width-of-passed w j (passed-of-done (placed j (width_faults w)) tt tt (sym e ∙ ap verdict_model p))

pub vector-of-passed : (w m v j : ℕ) → Passed (placed j (vector_faults w m v)) → WellFormed (row w m v)
vector-of-passed w m v j P =
    record {
      mask_below = nleb→lt _ _ P.0;
      value_below = nleb→lt _ _ P.1.0;
      apart = λ k. apart-of-and m v k (eqb→eq _ _ (T_not-not (eqb (bit_and m v) 0) P.1.1.0));
    }

pub row-of-passed : (t : Table) (i j : ℕ) → Passed (placed j (row_faults_at t i)) → RowPassed t i
row-of-passed t i j P =
    record {
      width_least = positive (width_at t.widths i) P.0;
      width_most = nltb→le _ _ P.1.0;
      lock_most = nltb→le _ _ P.1.1.0;
      formed = vector-of-passed (width_at t.widths i) (get_or t.masks i 0) (get_or t.values i 0) j P.1.1.1;
    }

pub passed-of-row : (t : Table) (i j : ℕ) → RowPassed t i → Passed (placed j (row_faults_at t i))
passed-of-row t i j R = (
  not-zero (width_at t.widths i) R.width_least,
  (
    le→nltb _ _ R.width_most,
    (
      le→nltb _ _ R.lock_most,
      (
        lt→nleb _ _ R.formed.mask_below,
        (
          lt→nleb _ _ R.formed.value_below,
          (
            not_not_T (eqb (bit_and (get_or t.masks i 0) (get_or t.values i 0)) 0)
                (eq→eqb (and-of-apart (width_at t.widths i) (get_or t.masks i 0) (get_or t.values i 0) R.formed.mask_below R.formed.value_below R.formed.apart)),
            tt,
          ),
        ),
      ),
    ),
  ),
)
