-- A line that is printed is read from its fields, by edition 3. Assumes nothing.
--   LineFits       the lines whose text is in the grammar
--   line-trip      such a line is read from its fields
--   fields-clean   no field of it holds a separator
use mathlib.Core.Path.{◌≡◌, refl, ap, ap₂, ◌∙◌}
use mathlib.Core.Bool.{true, ◌&&◌}
use mathlib.Core.List.{List, [], ◌∷◌, map}
use Prim.Native.Nat.{ℕ, zero, suc, ◌≤◌}
use native.Mathlib.Omega.{arith}
use lib.Dec.{T, leb, ltb, eqb, leb→le, lt→ltb}
use lib.ListN.{length, drop, length-map}
use Rattle.bits.proofs.Bools.{T_and, eq→eqb, when_true}
use Rattle.operations.specs.Limits.{record_words}
use Rattle.operations.specs.Kinds.{kinds, is_kind, kind_of}
use Rattle.operations.specs.Record.{kind_word}
use Rattle.grammar.specs.Limits.{number_limit}
use Rattle.grammar.specs.Lists.{same}
use Rattle.vectors.specs.Lists.{all_of}
use Rattle.grammar.specs.Words.{lock_word, three_letters, edition3}
use Rattle.grammar.specs.Print.{decimal, letters_of, LineRow, Line, row_line, record_line, outside, fields_of}
use Rattle.grammar.specs.Line.{is_digit, is_number, number_of, is_letter, is_vector, vector_of, is_lock, lock_of, is_name, number_named, line_of}
use Rattle.grammar.proofs.Tests.{all_of-imp, all_of-map, undone}
use Rattle.grammar.proofs.Decimals.{number-decimal}
use Rattle.grammar.proofs.Numbers.{digit-least, decimal-digits, decimal-number}
use Rattle.grammar.proofs.Letters.{letters-length, letters-letters, mask-back, value-back, by-letter}
use Rattle.grammar.proofs.Vectors.{RowFits, vector-is}
use Rattle.grammar.proofs.Names.{clean, name-known, name-number, name-clean}

-- a known kind, as many words as a record has, each number up to the limit
pub record RecordFits (words : List ℕ) : Type 0 where
  pub count : length words ≡ record_words
  pub known : T (is_kind (kind_word words))
  pub small : T (all_of (λ n. leb n number_limit) (drop 1 words))

abbrev pub LineFits : Line → Type 0
LineFits (row_line r) = RowFits r
LineFits (record_line words) = RecordFits words
LineFits outside = ⊥

-- ---- locks

lock-is : (l : ℕ) → l ≤ 1 → T (is_lock (lock_word l)) × (lock_of (lock_word l) ≡ l) × T (clean (lock_word l))
unfolding same all_of
lock-is zero h = (tt, refl, tt)
lock-is (suc zero) h = (tt, refl, tt)
lock-is (suc (suc l)) h = absurd (omega arith)

-- ---- reading what was printed

row-trip : (r : LineRow) → RowFits r → line_of edition3 (fields_of (row_line r)) ≡ row_line r
unfolding line_of fields_of same
row-trip r fits =
    when_true (is_lock lock && is_vector three_letters vector) (row_line (record { lock = lock_of lock; vector = vector_of three_letters vector })) outside
    (T_and (is_lock lock) (is_vector three_letters vector) (lock-is r.lock fits.lock_most).0 (vector-is r fits))
    ∙ (λ i. row_line (record {
      lock = (lock-is r.lock fits.lock_most).1 i;
      vector = record {
        width = letters-length r.vector.width r.vector.mask r.vector.value i;
        mask = mask-back r.vector fits.formed i;
        value = value-back r.vector fits.formed i;
      };
    }))
  where
    lock : List ℕ
    lock = lock_word r.lock

    vector : List ℕ
    vector = letters_of r.vector.width r.vector.mask r.vector.value

record-trip : (words : List ℕ) → RecordFits words → line_of edition3 (fields_of (record_line words)) ≡ record_line words
unfolding line_of fields_of same
record-trip [] fits = absurd (omega (arith, fits.count))
record-trip (k ∷ ns) fits =
    when_true (is_name name kinds && eqb (length (map decimal ns)) 5 && all_of is_number (map decimal ns)) (record_line (number_named name kinds ∷ map number_of (map decimal ns))) outside
    (T_and (is_name name kinds && eqb (length (map decimal ns)) 5) (all_of is_number (map decimal ns))
    (T_and (is_name name kinds) (eqb (length (map decimal ns)) 5) (name-known k fits.known) (eq→eqb (length-map ns decimal ∙ omega (arith, fits.count))))
    (all_of-map is_number decimal (λ x. leb x number_limit) (λ x t. decimal-number x (leb→le x number_limit t)) ns fits.small))
    ∙ ap record_line (ap₂ {C = List ℕ} ◌∷◌ (name-number k fits.known) (undone decimal number_of (λ x. leb x number_limit) (λ x t. number-decimal x) ns fits.small))
  where
    name : List ℕ
    name = (kind_of k).name

pub line-trip : (l : Line) → LineFits l → line_of edition3 (fields_of l) ≡ l
line-trip (row_line r) fits = row-trip r fits
line-trip (record_line words) fits = record-trip words fits
line-trip outside fits = absurd fits

pub fields-clean : (l : Line) → LineFits l → T (all_of clean (fields_of l))
unfolding fields_of all_of
fields-clean (row_line r) fits =
    T_and (clean (lock_word r.lock)) (clean vector && true) (lock-is r.lock fits.lock_most).2
    (T_and (clean vector) true (all_of-imp (is_letter three_letters) (λ b. ltb 32 b) (by-letter (λ c. T (ltb 32 c)) tt tt tt) vector (letters-letters r.vector.width r.vector.mask r.vector.value)) tt)
  where
    vector : List ℕ
    vector = letters_of r.vector.width r.vector.mask r.vector.value
fields-clean (record_line words) fits =
    T_and (clean (kind_of (kind_word words)).name) (all_of clean (map decimal (drop 1 words))) (name-clean (kind_word words) fits.known)
    (all_of-map clean decimal (λ x. leb x number_limit) (λ x t. all_of-imp is_digit (λ b. ltb 32 b) digit-clean (decimal x) (decimal-digits x)) (drop 1 words) fits.small)
  where
    digit-clean : (b : ℕ) → T (is_digit b) → T (ltb 32 b)
    digit-clean b t = lt→ltb 32 b (omega (arith, digit-least b t))
fields-clean outside fits = absurd fits
