-- The text of a table (01, "Text"; 02, request 11).
--   digits f n, decimal n   a number in decimal, of at most f digits, and of as many as it has
--   letter m v        the letter of a bit, from its mask bit and its value bit;   letters_of w m v   of the lowest w bits, highest first
--   LineRow           a row as its line tells it: lock and vector
--   Line              a row line, a record line by the record's words, or a line outside the grammar
--   joined c ps       parts with the byte c between any two
--   fields_of, line_text, lines_text   the fields of a line, its bytes, the bytes of lines
--   line_row t i       row i;   row_lines t, record_lines t   the lines of all rows, and of all records
--   table_lines t      the lines of a table;   text_of t   its text
use Rattle.std.specs.Prelude.{cond, List, [], ◌∷◌, ◌++◌, map, ℕ, zero, suc, ◌+◌, ◌/◌, ◌%◌, ltb, eqb, length, get_or, drop}
use Rattle.bits.specs.Bit.{bit}
use Rattle.vectors.specs.Row.{Row}
use Rattle.operations.specs.Record.{kind_in}
use Rattle.checks.specs.Table.{Table, row_at, start_of, record_count, record_of}
use Rattle.bits.specs.Counted.{listed}
use Rattle.grammar.specs.Words.{lf, tab, row_word, op_word, lock_word, zero_byte, letter0, letter1, letter_x, header3}

-- "A number is printed by recursion: its leading digits, then its last digit." The first argument bounds the count of digits.
unfoldable pub digits : ℕ → ℕ → List ℕ
digits zero n = []
digits (suc f) n = cond (ltb n 10) ((zero_byte + n) ∷ []) (digits f (n / 10) ++ ((zero_byte + n % 10) ∷ []))

unfoldable pub decimal : ℕ → List ℕ
decimal n = digits (suc n) n

-- "letters of 0, 1, X"
abbrev pub letter : ℕ → ℕ → ℕ
letter m v = cond (eqb m 1) letter_x (cond (eqb v 1) letter1 letter0)

-- "text shows the highest bit first" (01, "Vectors and rows")
unfoldable pub letters_of : ℕ → ℕ → ℕ → List ℕ
letters_of zero m v = []
letters_of (suc w) m v = letter (bit m w) (bit v w) ∷ letters_of w m v

pub record LineRow : Type 0 where
  pub lock : ℕ
  pub vector : Row

pub data Line : Type 0 where
  row_line : LineRow → Line
  record_line : List ℕ → Line
  outside : Line

-- "`row`, `open` or `locked`, 1 to 32 letters"; "`op`, the operation's name as above, t, a, b, p", and the sixth word (02, request 11)
unfoldable pub fields_of : Line → List (List ℕ)
fields_of (row_line r) = row_word ∷ lock_word r.lock ∷ letters_of r.vector.width r.vector.mask r.vector.value ∷ []
fields_of (record_line words) = op_word ∷ (kind_in words).name ∷ map decimal (drop 1 words)
fields_of outside = []

-- parts, with the byte c between any two
unfoldable pub joined : ℕ → List (List ℕ) → List ℕ
joined c [] = []
joined c (p ∷ []) = p
joined c (p ∷ q ∷ ps) = p ++ c ∷ joined c (q ∷ ps)

unfoldable pub line_text : Line → List ℕ
line_text l = joined tab (fields_of l) ++ lf ∷ []

unfoldable pub lines_text : List Line → List ℕ
lines_text [] = []
lines_text (l ∷ ls) = line_text l ++ lines_text ls

abbrev pub line_row : Table → ℕ → LineRow
line_row t i = record { lock = get_or t.locks i 0; vector = row_at t.widths (start_of t) i }

abbrev pub row_lines : Table → List Line
row_lines t = listed (λ i. row_line (line_row t i)) 0 (length t.widths)

abbrev pub record_lines : Table → List Line
record_lines t = listed (λ i. record_line (record_of t i)) 0 (record_count t)

-- "All row lines come first .. Then record lines"
unfoldable pub table_lines : Table → List Line
table_lines t = row_lines t ++ record_lines t

-- "the writer prints that with its header" (02, request 11)
unfoldable pub text_of : Table → List ℕ
text_of t = header3 ++ lines_text (table_lines t)
