-- The words, letters and separators of the text, each in one place (01, "Text"), and its editions (02, requests 5 and 11).
--   lf, tab            the byte that ends a line, and the one that parts its fields
--   row_word, op_word    the first field of a row line and of a record line;   lock_word l   the second of a row line: open_word or locked_word
--   zero_byte           the byte of the digit 0;   letter0, letter1, letter_x   the letters of a vector
--   Alphabet           the letters that stand for 0, for 1 and for X;   three_letters   those of 01;   nine_letters   those of 02, request 5
--   Edition            what a reader goes by: letters, operations, and whether it is older than edition 3;   older_with a   an older one with the alphabet a
--   number_count e      how many numbers a record line has;   six_for e k z ns   these, as edition 3 has them;   extended   the same of an older line
--   edition1           that of 01, which has no header line;   edition2   that of 02, request 5;   edition3   that of 02, request 11, in which tables are written
--   header2, header3   the header lines of the last two
use Rattle.std.specs.Prelude.{ℕ, ◌-◌, Bool, true, false, cond, List, [], ◌∷◌, eqb, take}
use Rattle.operations.specs.Limits.{record_words}
use Rattle.operations.specs.Kind.{bytes, is_row, Kind}
use Rattle.operations.specs.Kinds.{kinds, kind_of}

-- "Lines end in LF (byte 10), fields are parted by one tab."
abbrev pub lf : ℕ
lf = 10

abbrev pub tab : ℕ
tab = 9

abbrev pub row_word : List ℕ
row_word = bytes "row"

abbrev pub op_word : List ℕ
op_word = bytes "op"

abbrev pub open_word : List ℕ
open_word = bytes "open"

abbrev pub locked_word : List ℕ
locked_word = bytes "locked"

-- lock: 0 open, 1 locked
abbrev pub lock_word : ℕ → List ℕ
lock_word l = cond (eqb l 1) locked_word open_word

abbrev pub zero_byte : ℕ
zero_byte = 48

-- ---- letters

abbrev pub letter0 : ℕ
letter0 = 48

abbrev pub letter1 : ℕ
letter1 = 49

abbrev pub letter_x : ℕ
letter_x = 88

pub record Alphabet : Type 0 where
  pub zeros : List ℕ
  pub ones : List ℕ
  pub unknowns : List ℕ

abbrev pub three_letters : Alphabet
three_letters = record { zeros = letter0 ∷ []; ones = letter1 ∷ []; unknowns = letter_x ∷ [] }

-- "reads 0 and L as 0, 1 and H as 1, and U, X, Z, W and - as X" (02, request 5)
abbrev pub nine_letters : Alphabet
nine_letters = record { zeros = bytes "0L"; ones = bytes "1H"; unknowns = bytes "UXZW-" }

-- ---- editions

pub record Edition : Type 0 where
  pub letters : Alphabet
  pub operations : List Kind
  pub older : Bool

-- kinds 0 to 23: "they have no load or store" (02, request 11)
abbrev pub older_kinds : ℕ
older_kinds = 24

abbrev pub older_with : Alphabet → Edition
older_with a = record { letters = a; operations = take older_kinds kinds; older = true }

-- "letters of 0, 1, X" (01, "Text")
abbrev pub edition1 : Edition
edition1 = older_with three_letters

-- "all nine IEEE 1164 letters" (02, request 5)
abbrev pub edition2 : Edition
edition2 = older_with nine_letters

-- "Text of edition 3 carries five numbers a record and only 0, 1, X" (02, request 11)
abbrev pub edition3 : Edition
edition3 = record { letters = three_letters; operations = kinds; older = false }

-- "`op`, the operation's name as above, t, a, b, p" (01, "Text"); in edition 3 the sixth word too: every word of a record but the kind is a number of its line
abbrev pub number_count : Edition → ℕ
number_count e = cond e.older (record_words - 2) (record_words - 1)

-- "the fourth number of an ite there becomes the sixth word" (02, request 11), and its parameter 0; the sixth word of any other kind is 0
abbrev pub extended : {A : Type 0} → Bool → A → List A → List A
extended condition z [] = []
extended condition z (t ∷ []) = t ∷ []
extended condition z (t ∷ a ∷ []) = t ∷ a ∷ []
extended condition z (t ∷ a ∷ b ∷ []) = t ∷ a ∷ b ∷ []
extended condition z (t ∷ a ∷ b ∷ p ∷ []) = cond condition (t ∷ a ∷ b ∷ z ∷ p ∷ []) (t ∷ a ∷ b ∷ p ∷ z ∷ [])
extended condition z (t ∷ a ∷ b ∷ p ∷ c ∷ l) = t ∷ a ∷ b ∷ p ∷ c ∷ l

-- k: the kind's number; an ite is the kind whose sixth word is a row
abbrev pub six_for : {A : Type 0} → Edition → ℕ → A → List A → List A
six_for e k z ns = cond e.older (extended (is_row (kind_of k).use_c) z ns) ns

-- "A text whose first line is `edition`, tab, `2`" (02, request 5)
abbrev pub header2 : List ℕ
header2 = bytes "edition\t2\n"

-- "Text of edition 3 .. with its header" (02, request 11)
abbrev pub header3 : List ℕ
header3 = bytes "edition\t3\n"
