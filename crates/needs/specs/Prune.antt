-- Tables grown out of old designs (02, request 13): what prune refuses, answers and leaves, and what is claimed of it.
--   marks_differ, mark_over      the conditions of 21;   mark_faults n marks   21 of a table of n rows
--   prune_checks t marks        what prune refuses, in order
--   words_kept t is             the words of the records `is`, one after another;   moved_down t is   these, and 0 in the words that they free
--   prune_of t marks            what prune answers, and the words that it leaves
--   shortened t n words        the table whose records are the first n of the words
--   KeepsMarked t marks n short   the claim, of the number answered and the table with the records left
use Rattle.std.specs.Prelude.{◌≡◌, Bool, not, List, [], ◌∷◌, ◌++◌, ℕ, ◌-◌, ◌*◌, ◌≤◌, T, ltb, eqb, length, get_or, take, replicate}
use Rattle.bits.specs.Below.{some_below}
use Rattle.operations.specs.Limits.{record_words}
use Rattle.operations.specs.Faults.{Fault, fault}
use Rattle.checks.specs.Check.{done, Leaves, leaving, Check, verdict, placed}
use Rattle.checks.specs.Table.{State, row_at, Table, start_of, with_rows, record_count, record_of}
use Rattle.checks.specs.Checks.{run_checks}
use Rattle.steps.specs.States.{StateFits}
use Rattle.tables.specs.Run.{run_of, full_run, plain_run}
use Rattle.needs.specs.Needs.{marked, kept_of}

-- ---- 21: "a mark over 1, or marks that differ in number from the rows"

abbrev pub marks_differ : ℕ → List ℕ → Bool
marks_differ n marks = not (eqb (length marks) n)

abbrev pub mark_over : List ℕ → Bool
mark_over marks = some_below (length marks) (λ i. ltb 1 (get_or marks i 0))

abbrev pub mark_faults : ℕ → List ℕ → List Fault
mark_faults n marks = fault (marks_differ n marks) 21 ∷ fault (mark_over marks) 21 ∷ []

-- "as 21, after 10"
unfoldable pub prune_checks : Table → List ℕ → List Check
prune_checks t marks = run_checks t 0 (record_count t) ++ placed 0 (mark_faults (length t.widths) marks)

-- ---- the call

abbrev pub words_kept : Table → List ℕ → List ℕ
words_kept t [] = []
words_kept t (i ∷ is) = record_of t i ++ words_kept t is

-- "Staying records move down in their order, freed words become 0"
abbrev pub moved_down : Table → List ℕ → List ℕ
moved_down t is = words_kept t is ++ replicate (length t.words - length (words_kept t is)) 0

-- "the new count is answered"
unfoldable pub prune_of : Table → List ℕ → Leaves (List ℕ)
prune_of t marks = leaving (verdict (prune_checks t marks) (length (kept_of t marks))) t.words (moved_down t (kept_of t marks))

-- ---- the claim

abbrev pub shortened : Table → ℕ → List ℕ → Table
shortened t n words = record { widths = t.widths; locks = t.locks; masks = t.masks; values = t.values; words = take (record_words * n) words }

-- fewer, count: n records are left, no more than there were.  start: the rows as lent are well formed, so what follows is said of them too.
-- old_accepted, accepted: from all well-formed rows a full run of the old table is accepted, and one of the short table.
-- same_rows: "a full run of them leaves marked rows as the old table did", from all well-formed rows.  same_numbers: so does a full plain run, from all numbers.
pub record KeepsMarked (t : Table) (marks : List ℕ) (n : ℕ) (short : Table) : Type 0 where
  pub fewer : n ≤ record_count t
  pub count : record_count short ≡ n
  pub start : StateFits t.widths (start_of t)
  pub old_accepted : (s : State) → StateFits t.widths s → (run_of (with_rows t s) 0 (record_count t)).answer ≡ done (record_count t)
  pub accepted : (s : State) → StateFits t.widths s → (run_of (with_rows short s) 0 n).answer ≡ done n
  pub same_rows : (s : State) → StateFits t.widths s → (i : ℕ) → T (marked marks i) → row_at t.widths (full_run short s) i ≡ row_at t.widths (full_run t s) i
  pub same_numbers : (ns : List ℕ) → length ns ≡ length t.widths → (i : ℕ) → T (marked marks i) → get_or (plain_run short 0 n ns) i 0 ≡ get_or (plain_run t 0 (record_count t) ns) i 0
