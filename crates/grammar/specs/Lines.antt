-- The lines of a text and what they hold (01, "Text" and "Who can cause a refusal"; 02, requests 5 and 11, for the editions).
--   is_empty bs            there is no byte
--   lines_of e ps          the lines of a text cut at LF, read by the edition e;   lines_from e text   those of a text, or of the rest of one
--   headed_by header text  the first line is that header
--   Opening, opening text what the first line says: the edition of the text, and where and with which number its first row or record line begins
--   headed_opening, bare_opening   the two openings: of an edition after its header, and of edition 1, at once
--   lines_in text          the row lines and record lines of a text
--   first_bad later n ls   the number of the first bad line, counted on from n, or 0 where there is none
--   rows_in, words_in       the rows and the record words of lines
--   table_in ls            the table that lines hold;   table_read text   the table that a text holds
use Rattle.std.specs.Prelude.{Bool, true, false, cond, List, [], ◌∷◌, ◌++◌, map, ℕ, suc, length, take, drop}
use Rattle.checks.specs.Table.{Table}
use Rattle.grammar.specs.Lists.{same}
use Rattle.grammar.specs.Words.{lf, tab, Edition, edition1, edition2, edition3, header2, header3}
use Rattle.grammar.specs.Print.{LineRow, Line, row_line, record_line, outside}
use Rattle.grammar.specs.Cut.{pieces}
use Rattle.grammar.specs.Line.{line_of}

abbrev pub is_empty : List ℕ → Bool
is_empty [] = true
is_empty (b ∷ bs) = false

-- What stands after the last LF is a line outside the grammar, unless it is empty: "for a missing LF the last line".
unfoldable pub lines_of : Edition → List (List ℕ) → List Line
lines_of e [] = []
lines_of e (p ∷ []) = cond (is_empty p) [] (outside ∷ [])
lines_of e (p ∷ q ∷ ps) = line_of e (pieces tab p) ∷ lines_of e (q ∷ ps)

abbrev pub lines_from : Edition → List ℕ → List Line
lines_from e text = lines_of e (pieces lf text)

pub record Opening : Type 0 where
  pub edition : Edition
  pub at : ℕ
  pub first : ℕ

-- "A text whose first line is `edition`, tab, `2`" (02, request 5), with its LF; the same of `3`
unfoldable pub headed_by : List ℕ → List ℕ → Bool
headed_by header text = same (take (length header) text) header

-- the header counts as line 1
abbrev pub headed_opening : Edition → List ℕ → Opening
headed_opening e header = record { edition = e; at = length header; first = 2 }

-- of edition 1: there is no header
abbrev pub bare_opening : Opening
bare_opening = record { edition = edition1; at = 0; first = 1 }

-- "A text without that line keeps the three letters." "Any other edition number is a line outside the grammar": of edition 1. (02, request 5)
unfoldable pub opening : List ℕ → Opening
opening text = cond (headed_by header2 text) (headed_opening edition2 header2) (cond (headed_by header3 text) (headed_opening edition3 header3) bare_opening)

-- Whoever unfolds the lines unfolds the opening with them.
unfoldable pub lines_in : List ℕ → List Line
unfolding opening
lines_in text = lines_from (opening text).edition (drop (opening text).at text)

-- "a line outside the grammar, a row line after a record line, or no final LF"; later: a record line came before
unfoldable pub first_bad : Bool → ℕ → List Line → ℕ
first_bad later n [] = 0
first_bad later n (outside ∷ ls) = n
first_bad later n (record_line words ∷ ls) = first_bad true (suc n) ls
first_bad later n (row_line r ∷ ls) = cond later n (first_bad later (suc n) ls)

unfoldable pub rows_in : List Line → List LineRow
rows_in [] = []
rows_in (row_line r ∷ ls) = r ∷ rows_in ls
rows_in (record_line words ∷ ls) = rows_in ls
rows_in (outside ∷ ls) = rows_in ls

unfoldable pub words_in : List Line → List ℕ
words_in [] = []
words_in (row_line r ∷ ls) = words_in ls
words_in (record_line words ∷ ls) = words ++ words_in ls
words_in (outside ∷ ls) = words_in ls

unfoldable pub table_in : List Line → Table
table_in ls =
    record {
      widths = map (λ (r : LineRow). r.vector.width) (rows_in ls);
      locks = map (λ (r : LineRow). r.lock) (rows_in ls);
      masks = map (λ (r : LineRow). r.vector.mask) (rows_in ls);
      values = map (λ (r : LineRow). r.vector.value) (rows_in ls);
      words = words_in ls;
    }

abbrev pub table_read : List ℕ → Table
table_read text = table_in (lines_in text)
