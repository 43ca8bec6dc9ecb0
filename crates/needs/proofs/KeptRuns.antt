-- Request 13 over run, for every accepted table: the records that stay are accepted, and full runs leave the needed rows as the old table's. Assumes nothing.
use mathlib.Core.Path.{◌≡◌, refl, sym, ap, ◌∙◌, subst}
use mathlib.Core.Bool.{Bool}
use mathlib.Core.Logic.{◌≢◌}
use mathlib.Core.List.{List, [], ◌∷◌, ◌++◌}
use Prim.Native.Nat.{ℕ, zero, suc, ◌+◌, ◌*◌, ◌≤◌, ◌<◌}
use native.Mathlib.Nat.{zero-add, sub-zero}
use native.Mathlib.Omega.{arith}
use lib.Dec.{T}
use lib.ListN.{length, get_or, take, drop, length-append}
use lib.Seq.{take_at, drop-append-add}
use Rattle.vectors.specs.Lists.{All}
use Rattle.vectors.specs.Best.{best}
use Rattle.vectors.proofs.Lists.{all_get_d}
use Rattle.operations.specs.Limits.{record_words}
use Rattle.operations.specs.Record.{width_at, target_rows, effects_of}
use Rattle.checks.specs.Table.{State, row_at, Table, record_count, record_of}
use Rattle.checks.specs.Accepted.{RecordPassed, Accepted}
use Rattle.checks.proofs.Words.{record-length}
use Rattle.steps.specs.Step.{Program, step, plain_step, after, plain_after}
use Rattle.steps.specs.States.{StateFits}
use Rattle.tables.specs.Run.{effects_at, program_of, full_run, plain_run}
use Rattle.tables.proofs.Fits.{FitRecord, FitProgram}
use Rattle.tables.proofs.Steps.{step_fits, step-targets, step-others, plain-length, plain-targets, plain-others}
use Rattle.tables.proofs.Demand3.{program-fits}
use Rattle.tables.proofs.FullRuns.{full-after}
use Rattle.needs.specs.Needs.{kept_among}
use Rattle.needs.specs.Effects.{kept_by}
use Rattle.needs.specs.Prune.{words_kept}
use Rattle.needs.proofs.Walks.{kept_run, kept-below, kept-fewer}
use Rattle.needs.proofs.Rules.{kept_same}

-- ---- over programs: P has all the records, Q those that stay

module _ (P Q : Program) (F : FitProgram P) (same-widths : Q.widths ≡ P.widths) (need : ℕ → Bool)
    (stay : (j : ℕ) → j < length (kept_by P.effects P.count need) → Q.effects j ≡ P.effects (get_or (kept_by P.effects P.count need) j 0)) where
  abbrev is : List ℕ
  is = kept_by P.effects P.count need

  kept-rows : (s : State) → StateFits P.widths s → (i : ℕ) → T (need i) → row_at P.widths (after Q 0 (length is) s) i ≡ row_at P.widths (after P 0 P.count s) i
  unfolding after
  kept-rows s S =
      kept_run (row_at P.widths) (step P.widths) (λ e rows. best (width_at P.widths e.target) e.value rows) (StateFits P.widths) (FitRecord P.widths)
      (λ es u U. step_fits P.widths u U es) (λ es u. step-others P.widths u es) (λ es R u U. step-targets P.widths u U es R)
      P.effects Q.effects (λ n u. after P 0 n u) (λ n u. after Q 0 n u)
      (λ u. refl) (λ n u. ap (λ (k : ℕ). step P.widths (P.effects k) (after P 0 n u)) (zero-add n))
      (λ u. refl) (λ n u. λ ι. step (same-widths ι) (Q.effects (zero-add n ι)) (after Q 0 n u))
      P.count F need s S stay

  kept-numbers : (ns : List ℕ) → length ns ≡ length P.widths → (i : ℕ) → T (need i) → get_or (plain_after Q 0 (length is) ns) i 0 ≡ get_or (plain_after P 0 P.count ns) i 0
  unfolding plain_after
  kept-numbers ns c =
      kept_run (λ (u : List ℕ) (k : ℕ). get_or u k 0) plain_step (λ e ms. e.value ms) (λ u. length u ≡ length P.widths) (FitRecord P.widths)
      (λ es u U. plain-length es u ∙ U) plain-others (λ es R u U. plain-targets P.widths es R u U)
      P.effects Q.effects (λ n u. plain_after P 0 n u) (λ n u. plain_after Q 0 n u)
      (λ u. refl) (λ n u. ap (λ (k : ℕ). plain_step (P.effects k) (plain_after P 0 n u)) (zero-add n))
      (λ u. refl) (λ n u. ap (λ (k : ℕ). plain_step (Q.effects k) (plain_after Q 0 n u)) (zero-add n))
      P.count F need ns c stay

-- ---- the words of the records that stay

pub words_length : (t : Table) (is : List ℕ) → All (λ i. i < record_count t) is → length (words_kept t is) ≡ length is * record_words
words_length t [] b = refl
words_length t (i ∷ is) b = let e = words_length t is b.1 in let d = record-length t i b.0 in omega (arith, length-append (record_of t i) (words_kept t is))

words-record : (t : Table) (is : List ℕ) → All (λ i. i < record_count t) is → (j : ℕ) → j < length is → take record_words (drop (record_words * j) (words_kept t is)) ≡ record_of t (get_or is j 0)
words-record t [] b j h = absurd (omega arith)
words-record t (i ∷ is) b zero h = take_at (record_of t i) (words_kept t is) record_words (record-length t i b.0)
words-record t (i ∷ is) b (suc j) h =
    let e : record_words * suc j ≡ length (record_of t i) + record_words * j = let d = record-length t i b.0 in omega arith in
    ap (λ (n : ℕ). take record_words (drop n (record_of t i ++ words_kept t is))) e
    ∙ ap (take record_words) (drop-append-add (record_of t i) (words_kept t is) (record_words * j))
    ∙ words-record t is b.1 j (omega arith)

-- ---- over run: `short` has the words of the records that stay, and is as t in all else

module _ (t : Table) (need : ℕ → Bool) (A : Accepted t 0 (record_count t)) where
  abbrev pub kept : List ℕ
  kept = kept_among t (record_count t) need

  abbrev pub short : Table
  short = record { widths = t.widths; locks = t.locks; masks = t.masks; values = t.values; words = words_kept t kept }

  by-effects : kept ≡ kept_by (effects_at t) (record_count t) need
  by-effects = kept_same t (λ i h. (A.table.record_passed i h).kind_known) (record_count t) (omega arith) need

  short-below : All (λ i. i < record_count t) kept
  short-below = subst (All (λ i. i < record_count t)) (sym by-effects) (kept-below (effects_at t) (record_count t) need (record_count t) (omega arith))

  pub short-fewer : length kept ≤ record_count t
  short-fewer = subst (λ (l : List ℕ). length l ≤ record_count t) (sym by-effects) (kept-fewer (effects_at t) (record_count t) need)

  pub short-length : length (words_kept t kept) ≡ length kept * record_words
  short-length = words_length t kept short-below

  pub short-count : record_count short ≡ length kept
  short-count = let e = short-length in omega arith

  short-record : (j : ℕ) → j < length kept → record_of short j ≡ record_of t (get_or kept j 0)
  short-record = words-record t kept short-below

  -- what holds of each record of the table holds of those that stay
  short-all : (P : List ℕ → Type 0) → ((i : ℕ) → i < record_count t → P (record_of t i)) → (j : ℕ) → j < record_count short → P (record_of short j)
  short-all P h j l =
      let m : j < length kept = let e = short-count in omega arith in
      subst P (sym (short-record j m)) (h (get_or kept j 0) (all_get_d (λ i. i < record_count t) kept 0 short-below j m))

  pub short-accepted : Accepted short 0 (record_count short)
  short-accepted =
      record {
        table = record {
          rows_least = A.table.rows_least;
          rows_most = A.table.rows_most;
          locks_length = A.table.locks_length;
          masks_length = A.table.masks_length;
          values_length = A.table.values_length;
          words_whole = let e = short-length in omega arith;
          records_most = let e = short-count in let f = short-fewer in let m = A.table.records_most in omega arith;
          row_passed = λ i h. let R = A.table.row_passed i h in record { width_least = R.width_least; width_most = R.width_most; lock_most = R.lock_most; formed = R.formed };
          record_passed = short-all (RecordPassed t.widths) A.table.record_passed;
        };
        ordered = omega arith;
        within = omega arith;
        open_targets = short-all (λ words. All (λ j. get_or t.locks j 0 ≢ 1) (target_rows words)) A.open_targets;
      }

  stay : (j : ℕ) → j < length (kept_by (effects_at t) (record_count t) need) → effects_at short j ≡ effects_at t (get_or (kept_by (effects_at t) (record_count t) need) j 0)
  stay j h =
      ap (effects_of t.widths) (short-record j (subst (λ (l : List ℕ). j < length l) (sym by-effects) h))
      ∙ ap (λ (l : List ℕ). effects_at t (get_or l j 0)) by-effects

  counted : length (kept_by (effects_at t) (record_count t) need) ≡ record_count short
  counted = ap length (sym by-effects) ∙ sym short-count

  pub same_rows : (s : State) → StateFits t.widths s → (i : ℕ) → T (need i) → row_at t.widths (full_run short s) i ≡ row_at t.widths (full_run t s) i
  same_rows s S i h =
      ap (λ (u : State). row_at t.widths u i) (sym (full-after short short-accepted s S))
      ∙ ap (λ (n : ℕ). row_at t.widths (after (program_of short) 0 n s) i) (sym counted)
      ∙ kept-rows (program_of t) (program_of short) (program-fits t A.table) refl need stay s S i h
      ∙ ap (λ (u : State). row_at t.widths u i) (full-after t A s S)

  pub same_numbers : (ns : List ℕ) → length ns ≡ length t.widths → (i : ℕ) → T (need i)
      → get_or (plain_run short 0 (record_count short) ns) i 0 ≡ get_or (plain_run t 0 (record_count t) ns) i 0
  same_numbers ns c i h =
      ap (λ (n : ℕ). get_or (plain_after (program_of short) 0 n ns) i 0) (sub-zero (record_count short) ∙ sym counted)
      ∙ kept-numbers (program_of t) (program_of short) (program-fits t A.table) refl need stay ns c i h
      ∙ ap (λ (n : ℕ). get_or (plain_after (program_of t) 0 n ns) i 0) (sym (sub-zero (record_count t)))
