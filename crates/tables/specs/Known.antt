-- Demand 2's first sentence over a run: "On fully known rows each operation gives the number that SMT-LIB's theory of fixed-size bit vectors gives";
-- for load and store "both follow the plain run, as SMT-LIB's bit vectors have neither" (02, request 11).
--   KnownBefore t s rows       every operand row of record s is fully known in the rows before it
--   operand_widths widths words the widths of a record's operand rows
--   TermFor widths words m     m is a term for the record: listed, of its kind, and serving its first operand's width and its parameter
--   smt_vector m widths words values   the vector that this term gives, over the values of the operand rows
--   known_row v                 the fully known row with the width and the number of the vector v
--   SmtNumber t s rows next    what record s, no load and no store, gives where its operand rows are fully known
--   PlainNumbers t s rows next what any record s gives then: the numbers of the plain run of that record, in all rows that it writes
--   Demand2 t first last rows  the claim, of the rows that run leaves
use Rattle.std.specs.Prelude.{◌≡◌, not, ℕ, suc, ◌≤◌, ◌<◌, T, get_or}
use mathlib.Core.List.{List, Memᴰ, ◌++◌, map}
use Rattle.vectors.specs.Lists.{All}
use Rattle.vectors.specs.Row.{Row, row}
use Rattle.operations.specs.Kind.{is_base, first}
use Rattle.operations.specs.Record.{kind_word, target_word, parameter_word, kind_in, rows_named, target_rows, width_at}
use Rattle.operations.specs.Bitvector.{Bitvector, nat}
use Rattle.operations.specs.Terms.{Term, terms, narrow_terms, vectors}
use Rattle.checks.specs.Table.{State, row_at, Table, record_of}
use Rattle.tables.specs.Run.{point_rows, plain_run}

abbrev pub KnownBefore : Table → ℕ → State → Type 0
KnownBefore t s rows = All (λ i. get_or rows.masks i 0 ≡ 0) (rows_named (record_of t s))

abbrev pub operand_widths : List ℕ → List ℕ → List ℕ
operand_widths widths words = map (width_at widths) (rows_named words)

-- of a shift by p < 2^w there are two: the one of the same width, and the one of a vector five bits wider
pub record TermFor (widths words : List ℕ) (m : Term) : Type 0 where
  pub listed : Memᴰ m (terms ++ narrow_terms)
  pub of_kind : m.kind.number ≡ kind_word words
  pub serves : T (m.serves (first (operand_widths widths words)) (parameter_word words))

abbrev pub smt_vector : Term → List ℕ → List ℕ → List ℕ → Bitvector
smt_vector m widths words values =
    m.term (width_at widths (target_word words)) (parameter_word words) (vectors (operand_widths widths words) (map (λ i. get_or values i 0) (rows_named words)))

abbrev pub known_row : Bitvector → Row
known_row v = row v.width 0 (nat v)

-- some_term: there is a term for the record.  target_is: in the rows after it the target row is the fully known row of every term for it.
pub record SmtNumber (t : Table) (s : ℕ) (rows next : State) : Type 0 where
  pub some_term : (m : Term) × TermFor t.widths (record_of t s) m
  pub target_is : (m : Term) → TermFor t.widths (record_of t s) m
      → row_at t.widths next (target_word (record_of t s)) ≡ known_row (smt_vector m t.widths (record_of t s) rows.values)

-- every row that the record writes is fully known, and is the number that the plain run of this one record gives it
abbrev pub PlainNumbers : Table → ℕ → State → State → Type 0
PlainNumbers t s rows next =
    All (λ i. row_at t.widths next i ≡ row (width_at t.widths i) 0 (get_or (plain_run t s (suc s) rows.values) i 0)) (target_rows (record_of t s))

-- end: the rows left are those at point last.  numbers: each record without cells whose operand rows are fully known gives SMT-LIB's number.
-- plain_numbers: each record whose operand rows are fully known, a load or a store too, gives the plain run's numbers.
pub record Demand2 (t : Table) (first last : ℕ) (rows : State) : Type 0 where
  pub end : rows ≡ point_rows t first last
  pub numbers : (s : ℕ) → first ≤ s → s < last → KnownBefore t s (point_rows t first s) → T (not (is_base (kind_in (record_of t s)).use_c))
      → SmtNumber t s (point_rows t first s) (point_rows t first (suc s))
  pub plain_numbers : (s : ℕ) → first ≤ s → s < last → KnownBefore t s (point_rows t first s) → PlainNumbers t s (point_rows t first s) (point_rows t first (suc s))
