-- Which reset bits a conclusion rests on (02, request 9): what reset_bits refuses, answers and leaves, and what is claimed of it.
--   conclusion i k b     the conclusion that bit k of row i is b
--   value_of t i k        the bit's value after a full run from the rows as lent
--   ends_unknown t i k    the condition of 19;   unknown_faults t i k   this as a list
--   naming_checks t i k   what run refuses of all records, then 7 and 15 for the row and bit named
--   reset_checks t i k    what reset_bits refuses, in order
--   reset_of t i k        what it answers and leaves
--   KnownOpen t s p      p is a known bit of an open row
--   RestsOn t c rows     the claim, of the conclusion and the rows left
use Rattle.std.specs.Prelude.{◌≡◌, ◌≢◌, Bool, List, [], ◌∷◌, ◌++◌, ℕ, ◌<◌, T, length, get_or}
use Rattle.bits.specs.Bit.{bit, is_set}
use Rattle.operations.specs.Record.{width_at}
use Rattle.operations.specs.Faults.{Fault, fault}
use Rattle.checks.specs.Check.{done, leaving, Check, verdict, placed}
use Rattle.checks.specs.Table.{State, row_at, Table, start_of, with_rows, record_count}
use Rattle.checks.specs.Checks.{bit_faults, row_named_faults, run_checks}
use Rattle.tables.specs.Run.{Ran, run_of}
use Rattle.steps.specs.States.{StateFits, InsideState}
use Rattle.conclusions.specs.declared.Conclusion.{Conclusion}
use Rattle.conclusions.specs.Pass.{ended, Concludes, Position, forget, known_at, pass_rows}

abbrev pub conclusion : ℕ → ℕ → ℕ → Conclusion
conclusion i k b = record { row = i; at = k; value = b }

abbrev pub value_of : Table → ℕ → ℕ → ℕ
value_of t i k = bit (ended t i (start_of t)).value k

-- "a bit that ends X"
abbrev pub ends_unknown : Table → ℕ → ℕ → Bool
ends_unknown t i k = is_set (ended t i (start_of t)).mask k

abbrev pub unknown_faults : Table → ℕ → ℕ → List Fault
unknown_faults t i k = fault (ends_unknown t i k) 19 ∷ []

-- "Checks run as in run, then 7 (place the row named) and 15 for the row and bit named."
unfoldable pub naming_checks : Table → ℕ → ℕ → List Check
naming_checks t i k = run_checks t 0 (record_count t) ++ (placed i (row_named_faults t i) ++ placed 0 (bit_faults (width_at t.widths i) k))

-- "It refuses a bit that ends X as 19, last."
unfoldable pub reset_checks : Table → ℕ → ℕ → List Check
reset_checks t i k = naming_checks t i k ++ placed 0 (unknown_faults t i k)

-- "The rows are left with these start vectors, and the answer is the bit's value."
unfoldable pub reset_of : Table → ℕ → ℕ → Ran
reset_of t i k = leaving (verdict (reset_checks t i k) (value_of t i k)) (start_of t) (pass_rows t (conclusion i k (value_of t i k)))

-- ---- the claim

pub record KnownOpen (t : Table) (s : State) (p : Position) : Type 0 where
  pub row_in : p.row < length t.widths
  pub is_open : get_or t.locks p.row 0 ≡ 0
  pub at_in : p.at < width_at t.widths p.row
  pub known : T (known_at s p)

-- concluded: from the rows as lent the conclusion holds.  fits, wider: the rows left are well formed, and each start row lies inside its left row.
-- locked_stay: locked rows are as lent.  accepted, holds: from the rows left a full run is accepted, and "the conclusion holds from them".
-- further_accepted, no_further: with one more known bit of an open row X a full run is accepted too, and the conclusion does not hold: "no further known bit
-- of an open row can become X without losing it".
pub record RestsOn (t : Table) (c : Conclusion) (rows : State) : Type 0 where
  pub concluded : Concludes t c (start_of t)
  pub fits : StateFits t.widths rows
  pub wider : InsideState t.widths (start_of t) rows
  pub locked_stay : (i : ℕ) → get_or t.locks i 0 ≢ 0 → row_at t.widths rows i ≡ row_at t.widths (start_of t) i
  pub accepted : (run_of (with_rows t rows) 0 (record_count t)).answer ≡ done (record_count t)
  pub holds : Concludes t c rows
  pub further_accepted : (p : Position) → KnownOpen t rows p → (run_of (with_rows t (forget t.widths rows p)) 0 (record_count t)).answer ≡ done (record_count t)
  pub no_further : (p : Position) → KnownOpen t rows p → ¬ Concludes t c (forget t.widths rows p)
