-- The grammar of a line, by its fields (01, "Text"), in an edition.
--   numeral base value n f   the number that the bytes of f stand for, after n
--   is_digit b, leading_zero f a digit; more than one digit, the first of them 0
--   is_number f, number_of f   a number of a record line, and which
--   is_letter a b, mask_bit a b, value_bit a b   a letter of the alphabet a, and the mask bit and the value bit that it stands for
--   is_vector a f, vector_of a f   letters of a vector in the alphabet a, and which vector
--   is_lock f, lock_of f       `open` or `locked`, and which lock
--   is_name f ks, number_named f ks   the name of a kind of the list, and that kind's number
--   row_of e fs, record_in e fs   the row line, and the record line, of the fields after the first
--   line_of e fs              the line that has the fields fs, in the edition e
use Rattle.std.specs.Prelude.{Bool, false, not, cond, ◌&&◌, ◌||◌, List, [], ◌∷◌, map, ℕ, ◌+◌, ◌-◌, ◌*◌, leb, eqb, length}
use Rattle.bits.specs.Bit.{digit}
use Rattle.vectors.specs.Row.{Row, row}
use Rattle.operations.specs.Kind.{Kind}
use Rattle.bits.specs.Limits.{width_limit}
use Rattle.grammar.specs.Limits.{number_limit}
use Rattle.grammar.specs.Lists.{is_in, same}
use Rattle.vectors.specs.Lists.{all_of}
use Rattle.grammar.specs.Words.{row_word, op_word, open_word, locked_word, zero_byte, Alphabet, Edition, number_count, six_for}
use Rattle.grammar.specs.Print.{Line, row_line, record_line, outside}

unfoldable pub numeral : ℕ → (ℕ → ℕ) → ℕ → List ℕ → ℕ
numeral base value n [] = n
numeral base value n (b ∷ bs) = numeral base value (n * base + value b) bs

-- ---- "each 0 to 999 in decimal without leading zeros"

abbrev pub is_digit : ℕ → Bool
is_digit b = leb zero_byte b && leb b (zero_byte + 9)

abbrev pub leading_zero : List ℕ → Bool
leading_zero [] = false
leading_zero (b ∷ []) = false
leading_zero (b ∷ c ∷ f) = eqb b zero_byte

unfoldable pub number_of : List ℕ → ℕ
number_of f = numeral 10 (λ b. b - zero_byte) 0 f

unfoldable pub is_number : List ℕ → Bool
is_number f = leb 1 (length f) && all_of is_digit f && not (leading_zero f) && leb (number_of f) number_limit

-- ---- "1 to 32 letters of 0, 1, X", or of the nine (02, request 5)

abbrev pub is_letter : Alphabet → ℕ → Bool
is_letter a b = is_in b a.zeros || is_in b a.ones || is_in b a.unknowns

abbrev pub mask_bit : Alphabet → ℕ → ℕ
mask_bit a b = digit (is_in b a.unknowns)

abbrev pub value_bit : Alphabet → ℕ → ℕ
value_bit a b = digit (is_in b a.ones)

unfoldable pub is_vector : Alphabet → List ℕ → Bool
is_vector a f = leb 1 (length f) && leb (length f) width_limit && all_of (is_letter a) f

abbrev pub vector_of : Alphabet → List ℕ → Row
vector_of a f = row (length f) (numeral 2 (mask_bit a) 0 f) (numeral 2 (value_bit a) 0 f)

-- ---- "`open` or `locked`"

abbrev pub is_lock : List ℕ → Bool
is_lock f = same f open_word || same f locked_word

abbrev pub lock_of : List ℕ → ℕ
lock_of f = digit (same f locked_word)

-- ---- "the operation's name as above"

abbrev pub is_name : List ℕ → List Kind → Bool
is_name f [] = false
is_name f (k ∷ ks) = same f k.name || is_name f ks

abbrev pub number_named : List ℕ → List Kind → ℕ
number_named f [] = 0
number_named f (k ∷ ks) = cond (same f k.name) k.number (number_named f ks)

-- ---- lines

abbrev pub row_of : Edition → List (List ℕ) → Line
row_of e [] = outside
row_of e (lock ∷ []) = outside
row_of e (lock ∷ vector ∷ []) =
    cond (is_lock lock && is_vector e.letters vector)
    (row_line (record { lock = lock_of lock; vector = vector_of e.letters vector }))
    outside
row_of e (lock ∷ vector ∷ f ∷ fs) = outside

abbrev pub record_in : Edition → List (List ℕ) → Line
record_in e [] = outside
record_in e (name ∷ fs) =
    cond (is_name name e.operations && eqb (length fs) (number_count e) && all_of is_number fs)
    (record_line (number_named name e.operations ∷ six_for e (number_named name e.operations) 0 (map number_of fs)))
    outside

unfoldable pub line_of : Edition → List (List ℕ) → Line
line_of e [] = outside
line_of e (f ∷ fs) = cond (same f row_word) (row_of e fs) (cond (same f op_word) (record_in e fs) outside)
