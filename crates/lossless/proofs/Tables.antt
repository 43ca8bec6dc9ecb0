-- Small tables: one that meets all conditions, and for each condition that is needed one that breaks it alone. Computed over the definitions. Assumes nothing.
use mathlib.Core.Path.{refl}
use mathlib.Core.Logic.{◌≢◌}
use mathlib.Core.List.{[], ◌∷◌, map}
use Prim.Native.Nat.{ℕ, zero, suc, ◌<◌}
use native.Mathlib.Omega.{arith}
use Rattle.bits.specs.Bit.{bit, is_set, number}
use Rattle.bits.specs.Below.{some_below, all_below}
use Rattle.bits.specs.Counted.{listed, rising}
use Rattle.vectors.specs.Lists.{all_of, some_of}
use Rattle.vectors.specs.Choice.{coversb, some_choice}
use Rattle.vectors.specs.Best.{may, best}
use Rattle.vectors.proofs.Lists.{all-unmap, all-member}
use Rattle.operations.specs.Kinds.{is_kind, kind_of}
use Rattle.operations.specs.Record.{rows_named, target_rows, named_twice, parts_of, effect_of, effects_of}
use Rattle.operations.specs.Faults.{record_faults, lock_fault}
use Rattle.checks.specs.Check.{verdict}
use Rattle.checks.specs.Table.{Table, record_of}
use Rattle.checks.specs.Checks.{run_checks}
use Rattle.checks.specs.Model.{lent}
use Rattle.steps.specs.Step.{step, plain_step, after, plain_after}
use Rattle.tables.specs.Run.{run_of}
use Rattle.lossless.specs.Conditions.{lossless_kinds, writes, rows_read, rows_written, ListedKinds, LosesNothing, LastRecord, NamedOnce}
use Rattle.lossless.specs.Claims.{PreciseRun, SharpRun}
use Rattle.lossless.specs.Needed.{Runs, Needed}
use Rattle.lossless.proofs.NothingLost.{run-precise, run-sharp}
use Rattle.lossless.proofs.Tests.{missing-of, distinct_of, apart_of, unwritten_of, listed_of, nothing-of, last_of, imprecise-of, blunt-of}

-- ---- the conditions can be met

-- row 2 = row 0 and row 1, row 3 = row 2; then a last record of another kind, row 4 = row 3 + row 4, which writes one of its own operands
abbrev added : Table
added = lent (2 ∷ 2 ∷ 2 ∷ 2 ∷ 2 ∷ []) (0 ∷ 0 ∷ 0 ∷ 0 ∷ 0 ∷ []) (1 ∷ 3 ∷ 0 ∷ 0 ∷ 0 ∷ []) (2 ∷ 0 ∷ 0 ∷ 0 ∷ 1 ∷ []) (2 ∷ 2 ∷ 0 ∷ 1 ∷ 0 ∷ 0 ∷ 0 ∷ 3 ∷ 2 ∷ 0 ∷ 0 ∷ 0 ∷ 13 ∷ 4 ∷ 3 ∷ 4 ∷ 0 ∷ 0 ∷ [])

pub conditions-met : Runs added 2 × Runs added 3 × LosesNothing added 0 2 × LastRecord added 0 2
unfolding run_of run_checks verdict listed rising record_faults lock_fault parts_of target_rows all_of some_of rows_named is_kind kind_of lossless_kinds all_below
conditions-met = (refl, refl, nothing-of added 2 tt tt tt tt, last_of added 2 tt tt tt)

-- both theorems used on it: of row 3, which record 1 writes, and of row 4, which the last record writes
pub added-exact : PreciseRun added 0 2 3 × SharpRun added 0 3 4
unfolding target_rows kind_of
added-exact =
    let (accepted, longer, L, R) = conditions-met in
    ((run-precise added 0 2 accepted L 1 (omega arith) (omega arith)).0, (run-sharp added 0 2 (omega arith) longer L R).0)

-- row 1 = not row 0; then a last store of row 2 by the address in row 1 to the cells 3 and 4 (02, request 11)
abbrev stored : Table
stored = lent (1 ∷ 1 ∷ 2 ∷ 2 ∷ 2 ∷ []) (0 ∷ 0 ∷ 0 ∷ 0 ∷ 0 ∷ []) (1 ∷ 0 ∷ 1 ∷ 0 ∷ 0 ∷ []) (0 ∷ 0 ∷ 2 ∷ 1 ∷ 2 ∷ []) (1 ∷ 1 ∷ 0 ∷ 0 ∷ 0 ∷ 0 ∷ 25 ∷ 0 ∷ 1 ∷ 2 ∷ 2 ∷ 3 ∷ [])

-- the second theorem used on it: of both cells
pub stored_exact : SharpRun stored 0 2 3 × SharpRun stored 0 2 4
unfolding run_of run_checks verdict listed rising record_faults lock_fault parts_of target_rows all_of some_of rows_named is_kind kind_of lossless_kinds all_below
stored_exact = let S = run-sharp stored 0 1 (omega arith) refl (nothing-of stored 1 tt tt tt tt) (last_of stored 1 tt tt tt) in (S.0, S.1.0)

-- ---- each condition that is needed

-- row 0 is X in each. Row 1 = row 0 beside itself, 00 or 11; is it 01?
abbrev doubled : Table
doubled = lent (1 ∷ 2 ∷ 2 ∷ 1 ∷ []) (0 ∷ 0 ∷ 0 ∷ 0 ∷ []) (1 ∷ 0 ∷ 0 ∷ 0 ∷ []) (0 ∷ 0 ∷ 1 ∷ 0 ∷ []) (10 ∷ 1 ∷ 0 ∷ 0 ∷ 0 ∷ 0 ∷ 17 ∷ 3 ∷ 1 ∷ 2 ∷ 0 ∷ 0 ∷ [])

-- rows 1 and 2 = row 0; do they differ?
abbrev copied : Table
copied = lent (1 ∷ 1 ∷ 1 ∷ 1 ∷ []) (0 ∷ 0 ∷ 0 ∷ 0 ∷ []) (1 ∷ 0 ∷ 0 ∷ 0 ∷ []) (0 ∷ 0 ∷ 0 ∷ 0 ∷ []) (0 ∷ 1 ∷ 0 ∷ 0 ∷ 0 ∷ 0 ∷ 0 ∷ 2 ∷ 0 ∷ 0 ∷ 0 ∷ 0 ∷ 4 ∷ 3 ∷ 1 ∷ 2 ∷ 0 ∷ 0 ∷ [])

-- row 1 = row 0 by sext, 00 or 11; is it 01?
abbrev extended : Table
extended = lent (1 ∷ 2 ∷ 2 ∷ 1 ∷ []) (0 ∷ 0 ∷ 0 ∷ 0 ∷ []) (1 ∷ 0 ∷ 0 ∷ 0 ∷ []) (0 ∷ 0 ∷ 1 ∷ 0 ∷ []) (12 ∷ 1 ∷ 0 ∷ 0 ∷ 0 ∷ 0 ∷ 17 ∷ 3 ∷ 1 ∷ 2 ∷ 0 ∷ 0 ∷ [])

-- row 0 is XX. Row 1 = its square, of which bit 1 is 0
abbrev squared : Table
squared = lent (2 ∷ 2 ∷ []) (0 ∷ 0 ∷ []) (3 ∷ 0 ∷ []) (0 ∷ 0 ∷ []) (16 ∷ 1 ∷ 0 ∷ 0 ∷ 0 ∷ 0 ∷ [])

-- row 1 = row 0; do they differ?
abbrev compared : Table
compared = lent (1 ∷ 1 ∷ 1 ∷ []) (0 ∷ 0 ∷ 0 ∷ []) (1 ∷ 0 ∷ 0 ∷ []) (0 ∷ 0 ∷ 0 ∷ []) (0 ∷ 1 ∷ 0 ∷ 0 ∷ 0 ∷ 0 ∷ 4 ∷ 2 ∷ 0 ∷ 1 ∷ 0 ∷ 0 ∷ [])

one_by_one : (i : ℕ) → i < 3 → NamedOnce copied i
unfolding rows_named kind_of
one_by_one zero h = distinct_of (rows_named (record_of copied 0)) tt
one_by_one (suc zero) h = distinct_of (rows_named (record_of copied 1)) tt
one_by_one (suc (suc zero)) h = distinct_of (rows_named (record_of copied 2)) tt
one_by_one (suc (suc (suc i))) h = absurd (omega arith)

-- sext is kind 12, which the list has not
outside : ListedKinds extended 0 1 → ⊥
unfolding lossless_kinds kind_of
outside K = all-member (λ k. k.number ≢ 12) lossless_kinds (all-unmap (λ j. j ≢ 12) (λ k. k.number) lossless_kinds (missing-of 12 (map (λ k. k.number) lossless_kinds) tt)) (K 0 (omega arith) (omega arith)) refl

pub conditions-needed : Needed
unfolding run_of run_checks verdict listed rising record_faults lock_fault parts_of target_rows all_of some_of rows_named named_twice is_kind kind_of lossless_kinds all_below some_below some_choice coversb bit number may best effect_of effects_of step plain_step after plain_after is_set
conditions-needed =
    record {
      operand_twice_in_one = (
        doubled,
        refl,
        (listed_of doubled 1 tt, (λ D. D.0.0 refl), distinct_of (rows_written doubled 0 1) tt, unwritten_of doubled 1 tt),
        (0, omega arith, λ P. imprecise-of doubled 1 1 1 tt tt P.0),
        last_of doubled 1 tt tt tt,
        (λ S. blunt-of doubled 2 3 0 0 (omega arith) (omega arith) refl tt S.0),
      );
      operand_twice_in_two = (
        copied,
        refl,
        one_by_one,
        (listed_of copied 3 tt, (λ D. D.0.0 refl), distinct_of (rows_written copied 0 3) tt, unwritten_of copied 3 tt),
        (2, omega arith, λ P. imprecise-of copied 3 3 1 tt tt P.0),
        (listed_of copied 2 tt, (λ D. D.0.0 refl), distinct_of (rows_written copied 0 2) tt, unwritten_of copied 2 tt),
        last_of copied 2 tt tt tt,
        (λ S. blunt-of copied 3 3 0 0 (omega arith) (omega arith) refl tt S.0),
      );
      kind_outside = (
        extended,
        refl,
        (outside, distinct_of (rows_read extended 0 1) tt, distinct_of (rows_written extended 0 1) tt, unwritten_of extended 1 tt),
        (0, omega arith, λ P. imprecise-of extended 1 1 1 tt tt P.0),
        last_of extended 1 tt tt tt,
        (λ S. blunt-of extended 2 3 0 0 (omega arith) (omega arith) refl tt S.0),
      );
      last_names_twice = (
        squared,
        refl,
        nothing-of squared 0 tt tt tt tt,
        (λ D. D.0.0 refl),
        apart_of (rows_read squared 0 0) (rows_named (record_of squared 0)) tt,
        apart_of (rows_written squared 0 0) (writes squared 0) tt,
        (λ S. blunt-of squared 1 1 1 0 (omega arith) (omega arith) refl tt S.0),
      );
      last_reads_again = (
        compared,
        refl,
        nothing-of compared 1 tt tt tt tt,
        distinct_of (rows_named (record_of compared 1)) tt,
        (λ U. U.0.0 refl),
        apart_of (rows_written compared 0 1) (writes compared 1) tt,
        (λ S. blunt-of compared 2 2 0 0 (omega arith) (omega arith) refl tt S.0),
      );
    }
