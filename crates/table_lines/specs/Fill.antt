-- What the two passes of read are told and leave. The text is what follows the opening, and e the edition by which its lines are read.
--   Surveyed                  the first pass: the first bad line, counted on from `first`, or 0 and both counts
--   RowsWait, RowsRead        the second pass over the row lines: what it needs, and what it leaves
--   RecordsWait, RecordsRead  the second pass over the record lines
--   ColumnFilled e text f old new     the slice new is old with column f of the rows at its start
use Rattle.std.specs.Prelude.{◌≡◌, true, false, List, map, ℕ, ◌*◌, ◌≤◌, length, drop}
use Rattle.std.proofs.lemmas.List.Edits.{sets}
use Rattle.operations.specs.Limits.{record_words}
use Rattle.grammar.specs.Words.{Edition}
use Rattle.grammar.specs.Print.{LineRow}
use Rattle.grammar.specs.Lines.{lines_from, first_bad, rows_in, words_in}

pub record Surveyed (e : Edition) (first : ℕ) (text : List ℕ) (bad rows records : ℕ) : Type 0 where
  pub bad_is : bad ≡ first_bad false first (lines_from e text)
  pub rows_is : bad ≡ 0 → rows ≡ length (rows_in (lines_from e text))
  pub words_is : bad ≡ 0 → record_words * records ≡ length (words_in (lines_from e text))
  pub few : records ≤ length text

-- no line is bad, there are n rows, and the slices hold them
pub record RowsWait (e : Edition) (text : List ℕ) (n : ℕ) (ws ls ms vs : List ℕ) : Type 0 where
  pub good : first_bad false 1 (lines_from e text) ≡ 0
  pub count : n ≡ length (rows_in (lines_from e text))
  pub widths_hold : n ≤ length ws
  pub locks_hold : n ≤ length ls
  pub masks_hold : n ≤ length ms
  pub values_hold : n ≤ length vs

abbrev pub ColumnFilled : Edition → List ℕ → (LineRow → ℕ) → List ℕ → List ℕ → Type 0
ColumnFilled e text f old new = new ≡ sets old 0 (map f (rows_in (lines_from e text)))

-- the rows are in the slices, and from `at` on there are only record lines
pub record RowsRead (e : Edition) (text : List ℕ) (at : ℕ) (ws ws' ls ls' ms ms' vs vs' : List ℕ) : Type 0 where
  pub widths_are : ColumnFilled e text (λ r. r.vector.width) ws ws'
  pub locks_are : ColumnFilled e text (λ r. r.lock) ls ls'
  pub masks_are : ColumnFilled e text (λ r. r.vector.mask) ms ms'
  pub values_are : ColumnFilled e text (λ r. r.vector.value) vs vs'
  pub inside : at ≤ length text
  pub words_left : words_in (lines_from e (drop at text)) ≡ words_in (lines_from e text)
  pub good_left : first_bad true 1 (lines_from e (drop at text)) ≡ 0

-- from `at` on there are only record lines, n of them, and the slice holds their words
pub record RecordsWait (e : Edition) (text : List ℕ) (at n : ℕ) (words : List ℕ) : Type 0 where
  pub inside : at ≤ length text
  pub good : first_bad true 1 (lines_from e (drop at text)) ≡ 0
  pub count : record_words * n ≡ length (words_in (lines_from e (drop at text)))
  pub words_hold : record_words * n ≤ length words

pub record RecordsRead (e : Edition) (text : List ℕ) (at : ℕ) (words words' : List ℕ) : Type 0 where
  pub words_are : words' ≡ sets words 0 (words_in (lines_from e (drop at text)))
