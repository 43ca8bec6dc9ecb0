-- The edition-3 form of a text: "older ones are read only", and the writer prints edition 3 (02, request 11). Of edition 3 it is the text itself.
--   letter_form a b    0, 1 or X for a letter of the alphabet a, any other byte as it is
--   row_form, record_form   the fields of a row line, and of a record line, after the first
--   fields_form e fs   the fields of a line: the third of a row line letter by letter, the numbers of a record line as edition 3 has them, all else as it is
--   line_form e line   a line without its LF;   form_of text   a text: edition 3's header, and each line after its own
use Rattle.std.specs.Prelude.{cond, List, [], ◌∷◌, ◌++◌, map, ℕ, drop}
use Rattle.grammar.specs.Lists.{is_in, same}
use Rattle.grammar.specs.Words.{lf, tab, row_word, op_word, zero_byte, letter0, letter1, letter_x, Alphabet, Edition, six_for, header3}
use Rattle.grammar.specs.Print.{joined}
use Rattle.grammar.specs.Cut.{pieces}
use Rattle.grammar.specs.Line.{number_named}
use Rattle.grammar.specs.Lines.{opening}

-- "0 and L as 0, 1 and H as 1, and U, X, Z, W and - as X" (02, request 5), by the alphabet
abbrev pub letter_form : Alphabet → ℕ → ℕ
letter_form a b = cond (is_in b a.unknowns) letter_x (cond (is_in b a.ones) letter1 (cond (is_in b a.zeros) letter0 b))

-- "`row`, `open` or `locked`, 1 to 32 letters" (01, "Text"): letters stand in the third field of a row line alone
abbrev pub row_form : Edition → List (List ℕ) → List (List ℕ)
row_form e [] = []
row_form e (lock ∷ []) = lock ∷ []
row_form e (lock ∷ vector ∷ fs) = lock ∷ map (letter_form e.letters) vector ∷ fs

-- "the fourth number of an ite there becomes the sixth word" (02, request 11): the digit 0 in its old place, or after the fourth number of any other kind
abbrev pub record_form : Edition → List (List ℕ) → List (List ℕ)
record_form e [] = []
record_form e (name ∷ ns) = name ∷ six_for e (number_named name e.operations) (zero_byte ∷ []) ns

abbrev pub fields_form : Edition → List (List ℕ) → List (List ℕ)
fields_form e [] = []
fields_form e (f ∷ fs) = f ∷ cond (same f row_word) (row_form e fs) (cond (same f op_word) (record_form e fs) fs)

-- "fields are parted by one tab" (01, "Text")
abbrev pub line_form : Edition → List ℕ → List ℕ
line_form e line = joined tab (fields_form e (pieces tab line))

-- "the writer prints that with its header" (02, request 11)
unfoldable pub form_of : List ℕ → List ℕ
form_of text = header3 ++ joined lf (map (line_form (opening text).edition) (pieces lf (drop (opening text).at text)))
