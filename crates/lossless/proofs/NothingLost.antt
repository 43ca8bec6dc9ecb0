-- Both theorems of 02, request 10: of tables of every length, without the conditions on writing, which are not used; then in the request's words, of these
-- tables and of those that run accepts. Assumes nothing.
use mathlib.Core.Path.{◌≡◌, sym, subst}
use mathlib.Core.Logic.{◌≢◌}
use mathlib.Core.List.{List}
use Prim.Native.Nat.{ℕ, suc, ◌+◌, ◌-◌, ◌≤◌, ◌<◌}
use native.Mathlib.Nat.{add-sub_of_le}
use native.Mathlib.Omega.{arith}
use lib.ListN.{length}
use Rattle.vectors.specs.Lists.{All, Distinct}
use Rattle.vectors.proofs.Lists.{all_map, all-imp, all_both}
use Rattle.vectors.proofs.ListParts.{all-rising}
use Rattle.operations.specs.Record.{Effect, rows_named}
use Rattle.checks.specs.Check.{done}
use Rattle.checks.specs.Table.{State, Table, start_of, record_count, record_of}
use Rattle.checks.specs.Accepted.{TablePassed, Accepted}
use Rattle.steps.specs.Step.{after, plain_after}
use Rattle.tables.specs.Run.{program_of, effects_at, run_of, point_rows, plain_run}
use Rattle.tables.proofs.Fits.{FitProgram, effect-targets, effects-fit}
use Rattle.tables.proofs.Demand3.{accepted-of-run, start_fits, at-point}
use Rattle.lossless.specs.Conditions.{writes, ListedKinds, OperandsOnce, LosesNothing, NamedOnce, Unread, LastRecord, Fitting}
use Rattle.lossless.specs.Claims.{Precise, Sharp, rows_after, PreciseAfter, SharpAfter, PreciseRun, SharpRun}
use Rattle.lossless.proofs.FreeRows.{Fresh, ReadsFresh, FreeRecords, precise, brought}
use Rattle.lossless.proofs.Sharps.{Brought, sharp}
use Rattle.lossless.proofs.Stretches.{part-distinct, part-unread, unread-fresh}
use Rattle.lossless.proofs.Records.{free_effect, listed_plain, record-lossless, effects-free, effects-fresh}

-- ---- tables of every length, by what is used of the conditions

module _ (t : Table) (A : Fitting t) (first last : ℕ) (o : first ≤ last) (w : last ≤ record_count t) (K : ListedKinds t first last) (O : OperandsOnce t first last) where
  abbrev named : ℕ → List ℕ
  named i = rows_named (record_of t i)

  -- the effect of record first + j
  abbrev effect : ℕ → Effect
  effect j = free_effect t.widths (record_of t (first + j))

  fits : FitProgram (program_of t)
  fits i h = effects-fit t.widths (record_of t i) (A.records i h)

  free-records : FreeRecords (program_of t) effect first (last - first)
  free-records =
      record {
        single = λ j l. effects-free t.widths (record_of t (first + j)) (A.records (first + j) (omega arith)).kind_known (listed_plain (record_of t (first + j)) (K (first + j) (omega arith) (omega arith))) (distinct j l);
        lossless = λ j l. record-lossless t.widths (record_of t (first + j)) (A.records (first + j) (omega arith)) (K (first + j) (omega arith) (omega arith));
        reads = λ j l. (
          distinct j l,
          unread-fresh effect j (named (first + j)) (λ k m. part-unread named first (last - first) O (first + k) (first + j) (omega arith) (omega arith) (omega arith)),
        );
      }
    where
      distinct : (j : ℕ) → j < last - first → Distinct (named (first + j))
      distinct j l = part-distinct named first (last - first) O (first + j) (omega arith) (omega arith)

  -- every row of the table, written or not
  pub every-row-precise : (i : ℕ) → i < length t.widths → PreciseAfter t first last i
  every-row-precise = precise (program_of t) fits first (last - first) (omega arith) effect free-records (start_of t) A.rows

  -- of the first m records of the stretch: the target of the effect l is sharp
  abbrev SharpAt : ℕ → Effect → Type 0
  SharpAt m l = Sharp t.widths (start_of t) (plain_after (program_of t) first m) (after (program_of t) first m (start_of t)) l.target

  -- record `last`, whatever its effects, of which each reads distinct fresh rows
  effects-sharp : last < record_count t → All (ReadsFresh effect (last - first)) (effects_at t last) → All (λ l. SharpAfter t first (suc last) l.target) (effects_at t last)
  effects-sharp h R =
      let n = last - first in
      let next : suc n ≡ suc last - first = omega arith in
      subst (λ (m : ℕ). All (SharpAt m) (effects_at t last)) next
      (subst (λ (i : ℕ). All (Brought (program_of t) first n (start_of t)) (effects_at t i) → All (SharpAt (suc n)) (effects_at t i)) (add-sub_of_le o)
      (sharp (program_of t) fits first n (omega arith) (start_of t) A.rows)
      (all_both (brought (program_of t) fits first n (omega arith) effect free-records (start_of t) A.rows) (effects_at t last) (fits last h).fit R))

  -- where it names rows that nothing has read, and each once: every row that it writes
  pub fresh-sharp : last < record_count t → NamedOnce t last → Unread t first last → All (SharpAfter t first (suc last)) (writes t last)
  fresh-sharp h D U =
      let fresh : All (Fresh effect (last - first)) (named last) = unread-fresh effect (last - first) (named last)
      (λ k m. all-imp (λ r u. all-rising (λ j. j ≢ r) named first (last - first) u (first + k) (omega arith) (omega arith)) (named last) U) in
      subst (All (SharpAfter t first (suc last))) (effect-targets t.widths (record_of t last))
      (all_map (SharpAfter t first (suc last)) (λ (l : Effect). l.target) (λ l S. S) (effects_at t last)
      (effects-sharp h (effects-fresh t.widths (record_of t last) (A.records last h).kind_known (Fresh effect (last - first)) D fresh)))

-- ---- in the request's words

-- "Then each written row covers precisely the numbers that plain runs from covered starts give it."
pub table-precise : (t : Table) → Fitting t → (first last : ℕ) → first ≤ last → last ≤ record_count t → LosesNothing t first last
    → (i : ℕ) → first ≤ i → i < last → All (PreciseAfter t first last) (writes t i)
table-precise t A first last o w L i h l = all-imp (every-row-precise t A first last o w L.kinds L.operands_once) (writes t i) (A.records i (omega arith)).targets_in

-- "If one last record of any kind reads rows that nothing has read, naming each only once, and writes a row not yet written, each of its bits is known exactly
-- if all starts agree on it." Of a store: every cell of its span.
pub table-sharp : (t : Table) → Fitting t → (first n : ℕ) → first ≤ n → n < record_count t → LosesNothing t first n → LastRecord t first n → All (SharpAfter t first (suc n)) (writes t n)
table-sharp t A first n o w L R = fresh-sharp t A first n o (omega arith) L.kinds L.operands_once w R.named_once R.unread

-- ---- of run

fitting : (t : Table) → TablePassed t → Fitting t
fitting t A = record { rows = start_fits t A; records = A.record_passed }

rows_left : (t : Table) (first last : ℕ) → Accepted t first last → rows_after t first last ≡ point_rows t first last
rows_left t first last A = sym (at-point t first last A (start_of t) (start_fits t A.table) last A.ordered (omega arith))

pub run-precise : (t : Table) (first last : ℕ) → (run_of t first last).answer ≡ done last → LosesNothing t first last → (i : ℕ) → first ≤ i → i < last → All (PreciseRun t first last) (writes t i)
run-precise t first last e L i h l =
    let A = accepted-of-run t first last last e in
    subst (λ (u : State). All (Precise t.widths (start_of t) (plain_run t first last) u) (writes t i)) (rows_left t first last A)
    (table-precise t (fitting t A.table) first last A.ordered A.within L i h l)

pub run-sharp : (t : Table) (first n : ℕ) → first ≤ n → (run_of t first (suc n)).answer ≡ done (suc n) → LosesNothing t first n → LastRecord t first n → All (SharpRun t first (suc n)) (writes t n)
run-sharp t first n o e L R =
    let A = accepted-of-run t first (suc n) (suc n) e in
    subst (λ (u : State). All (Sharp t.widths (start_of t) (plain_run t first (suc n)) u) (writes t n)) (rows_left t first (suc n) A)
    (table-sharp t (fitting t A.table) first n o A.within L R)
