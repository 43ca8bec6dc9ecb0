-- Writing and counting the lines of a table: the turns of the loops. Assumes nothing.
--   lines-on, lines_end                   the lines from i on, by the first of them
--   rows-begin, row_on, rows_end          the row lines;   row-left   their bytes
--   records-begin, record-on, records-end, kind-in   the record lines;   record-left   their bytes
use mathlib.Core.Path.{◌≡◌, refl, sym, ap, subst, ◌∙◌}
use mathlib.Core.List.{List, [], ◌++◌}
use Prim.Native.Nat.{ℕ, suc, ◌+◌, ◌-◌, ◌/◌, ◌≤◌, ◌<◌}
use native.Mathlib.Nat.{sub-zero}
use native.Mathlib.Numerals.{add-one}
use native.Mathlib.Omega.{arith}
use lib.Dec.{T}
use Rattle.operations.specs.Kinds.{is_kind}
use lib.ListN.{length, get_or, length-append}
use Rattle.operations.specs.Limits.{record_words}
use Rattle.operations.specs.declared.Record.{Record}
use Rattle.operations.specs.Record.{kind_word, words_of}
use Rattle.checks.specs.Table.{Table, record_of}
use Rattle.checks.specs.Model.{lent}
use Rattle.bits.specs.Counted.{listed}
use Rattle.grammar.specs.Print.{Line, row_line, record_line, line_text, lines_text, line_row, row_lines, record_lines}
use Rattle.printing.proofs.PutLines.{row_text, record_text}
use Rattle.table_lines.specs.Print.{RecordsFit}

-- ---- the lines of a table

pub lines-on : (f : ℕ → Line) (i n : ℕ) → i < n → lines_text (listed f i (n - i)) ≡ line_text (f i) ++ lines_text (listed f (i + 1) (n - (i + 1)))
unfolding listed lines_text
lines-on f i n h =
    let k : n - i ≡ suc (n - (i + 1)) = omega arith in
    ap (λ (x : ℕ). lines_text (listed f i x)) k ∙ ap (λ (x : ℕ). line_text (f i) ++ lines_text (listed f x (n - (i + 1)))) (sym (add-one i))

pub lines_end : (f : ℕ → Line) (i n : ℕ) → n ≤ i → lines_text (listed f i (n - i)) ≡ []
unfolding listed lines_text
lines_end f i n h = let k : n - i ≡ 0 = omega arith in ap (λ (x : ℕ). lines_text (listed f i x)) k

-- ---- the turns of the two loops

-- the row lines from i on
abbrev pub rows-from : Table → ℕ → List ℕ
rows-from t i = lines_text (listed (λ j. row_line (line_row t j)) i (length t.widths - i))

pub row_on : (t : Table) (i w : ℕ) → i < length t.widths → w ≡ get_or t.widths i 0
    → rows-from t i ≡ row_text (get_or t.locks i 0) w (get_or t.masks i 0) (get_or t.values i 0) ++ rows-from t (i + 1)
row_on t i w h e =
    lines-on (λ j. row_line (line_row t j)) i (length t.widths) h
    ∙ ap (λ (x : ℕ). row_text (get_or t.locks i 0) x (get_or t.masks i 0) (get_or t.values i 0) ++ rows-from t (i + 1)) (sym e)

pub row-left : (t : Table) (i : ℕ) → i < length t.widths
    → length (rows-from t i) ≡ length (row_text (get_or t.locks i 0) (get_or t.widths i 0) (get_or t.masks i 0) (get_or t.values i 0)) + length (rows-from t (i + 1))
row-left t i h =
    ap length (row_on t i (get_or t.widths i 0) h refl)
    ∙ length-append (row_text (get_or t.locks i 0) (get_or t.widths i 0) (get_or t.masks i 0) (get_or t.values i 0)) (rows-from t (i + 1))

pub rows-begin : (t : Table) → rows-from t 0 ≡ lines_text (row_lines t)
rows-begin t = ap (λ (n : ℕ). lines_text (listed (λ j. row_line (line_row t j)) 0 n)) (sub-zero (length t.widths))

pub rows_end : (t : Table) (i : ℕ) → length t.widths ≤ i → rows-from t i ≡ []
rows_end t i h = lines_end (λ j. row_line (line_row t j)) i (length t.widths) h

-- the record lines from i on
abbrev pub records_from : List ℕ → ℕ → List ℕ
records_from words i = lines_text (listed (λ j. record_line (record_of (lent [] [] [] [] words) j)) i (length words / record_words - i))

-- by the record that was read
module _ (words : List ℕ) (i : ℕ) (h : i < length words / record_words) (r : Record) (is : words_of r ≡ record_of (lent [] [] [] [] words) i) where
  pub record-on : records_from words i ≡ record_text r ++ records_from words (i + 1)
  record-on =
      lines-on (λ j. record_line (record_of (lent [] [] [] [] words) j)) i (length words / record_words) h
      ∙ ap (λ (x : List ℕ). line_text (record_line x) ++ records_from words (i + 1)) (sym is)

  pub record-left : length (records_from words i) ≡ length (record_text r) + length (records_from words (i + 1))
  record-left = ap length record-on ∙ length-append (record_text r) (records_from words (i + 1))

  pub kind-in : RecordsFit words → T (is_kind r.kind)
  kind-in fits = subst (λ (x : List ℕ). T (is_kind (kind_word x))) (sym is) (fits.known i h)

pub records-begin : (words : List ℕ) → records_from words 0 ≡ lines_text (record_lines (lent [] [] [] [] words))
records-begin words = ap (λ (n : ℕ). lines_text (listed (λ j. record_line (record_of (lent [] [] [] [] words) j)) 0 n)) (sub-zero (length words / record_words))

pub records-end : (words : List ℕ) (i : ℕ) → length words / record_words ≤ i → records_from words i ≡ []
records-end words i h = lines_end (λ j. record_line (record_of (lent [] [] [] [] words) j)) i (length words / record_words) h
