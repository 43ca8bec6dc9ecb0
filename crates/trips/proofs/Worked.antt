-- The text of 01's example, in edition 3, and short texts that read refuses, computed over the definitions. Assumes nothing.
use mathlib.Core.Path.{◌≡◌, refl}
use mathlib.Core.List.{List, [], ◌∷◌}
use Prim.Native.Nat.{ℕ}
use Rattle.bits.specs.Bit.{bit}
use Rattle.operations.specs.Kinds.{kinds, kind_of}
use Rattle.checks.specs.Check.{done, refused, verdict}
use Rattle.checks.specs.Table.{Table}
use Rattle.checks.specs.Model.{lent}
use Rattle.bits.specs.Counted.{listed}
use Rattle.grammar.specs.Lists.{same}
use Rattle.vectors.specs.Lists.{all_of}
use Rattle.operations.specs.Kind.{bytes}
use Rattle.grammar.specs.Print.{digits, decimal, letters_of, fields_of, joined, line_text, lines_text, table_lines, text_of}
use Rattle.grammar.specs.Cut.{pieces, before, past, part_ends, field_ends, field_of}
use Rattle.grammar.specs.Line.{numeral, is_number, number_of, is_vector, line_of}
use Rattle.grammar.specs.Lines.{headed_by, lines_of, lines_in, first_bad, rows_in, words_in, table_in}
use Rattle.texts.specs.Calls.{read_checks, read_of}

abbrev example : List ℕ
example = bytes "edition\t3\nrow\topen\t0X1\nrow\topen\t011\nrow\topen\t000\nop\tmul\t2\t0\t1\t0\t0\n"

abbrev table : Table
table = lent (3 ∷ 3 ∷ 3 ∷ []) (0 ∷ 0 ∷ 0 ∷ []) (2 ∷ 0 ∷ 0 ∷ []) (1 ∷ 3 ∷ 0 ∷ []) (16 ∷ 2 ∷ 0 ∷ 1 ∷ 0 ∷ 0 ∷ [])

-- slices of four rows and one record
abbrev slices : Table
slices = lent (9 ∷ 9 ∷ 9 ∷ 9 ∷ []) (9 ∷ 9 ∷ 9 ∷ 9 ∷ []) (9 ∷ 9 ∷ 9 ∷ 9 ∷ []) (9 ∷ 9 ∷ 9 ∷ 9 ∷ []) (9 ∷ 9 ∷ 9 ∷ 9 ∷ 9 ∷ 9 ∷ [])

prints : text_of table ≡ example
unfolding bit digits decimal letters_of fields_of joined line_text lines_text listed table_lines text_of kind_of
prints = refl

reads : read_of example slices
    ≡ record {
      answer = done (record { rows = 3; records = 1 });
      slices = lent (3 ∷ 3 ∷ 3 ∷ 9 ∷ []) (0 ∷ 0 ∷ 0 ∷ 9 ∷ []) (2 ∷ 0 ∷ 0 ∷ 9 ∷ []) (1 ∷ 3 ∷ 0 ∷ 9 ∷ []) (16 ∷ 2 ∷ 0 ∷ 1 ∷ 0 ∷ 0 ∷ []);
    }
unfolding read_of read_checks verdict pieces all_of same numeral is_number number_of is_vector line_of headed_by lines_of lines_in first_bad rows_in words_in table_in kinds
reads = refl

-- a row line after a record line, no final LF, a leading zero: each with its line, and the slices as they were
late-row : read_of (bytes "edition\t3\nop\tcopy\t2\t0\t0\t0\t0\nrow\topen\t0X1\n") slices ≡ record { answer = refused 12 3; slices = slices }
unfolding read_of read_checks verdict pieces all_of same numeral is_number number_of is_vector line_of headed_by lines_of lines_in first_bad rows_in words_in table_in kinds
late-row = refl

no_end : read_of (bytes "edition\t3\nrow\topen\t0X1\nrow\topen\t0X1") slices ≡ record { answer = refused 12 3; slices = slices }
unfolding read_of read_checks verdict pieces all_of same numeral is_number number_of is_vector line_of headed_by lines_of lines_in first_bad rows_in words_in table_in
no_end = refl

leading-zero : read_of (bytes "edition\t3\nop\tcopy\t02\t0\t0\t0\t0\n") slices ≡ record { answer = refused 12 2; slices = slices }
unfolding read_of read_checks verdict pieces all_of same numeral is_number number_of is_vector line_of headed_by lines_of lines_in first_bad rows_in words_in table_in kinds
leading-zero = refl

-- the third field of the fifth line, the header counted, and an empty part where there is none
third-field : field_of (record { block = 5; offset = 100; bytes = example }) 5 3 ≡ record { block = 5; offset = 156; bytes = bytes "2" }
unfolding before past part_ends field_ends field_of
third-field = refl

no_field : field_of (record { block = 5; offset = 100; bytes = example }) 5 8 ≡ record { block = 5; offset = 165; bytes = [] }
unfolding before past part_ends field_ends field_of
no_field = refl
