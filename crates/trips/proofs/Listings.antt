-- A simulator's listing, and headers and letters that read refuses, computed over the definitions (02, request 5). Assumes nothing.
use mathlib.Core.Path.{◌≡◌, refl}
use mathlib.Core.List.{List, [], ◌∷◌}
use Prim.Native.Nat.{ℕ}
use Rattle.operations.specs.Kind.{bytes}
use Rattle.checks.specs.Check.{done, refused, verdict}
use Rattle.checks.specs.Table.{Table}
use Rattle.checks.specs.Model.{lent}
use Rattle.grammar.specs.Lists.{same}
use Rattle.vectors.specs.Lists.{all_of}
use Rattle.grammar.specs.Print.{joined}
use Rattle.grammar.specs.Cut.{pieces, before, past, part_ends, field_ends, field_of}
use Rattle.grammar.specs.Line.{numeral, is_vector, line_of}
use Rattle.grammar.specs.Lines.{headed_by, lines_of, lines_in, first_bad, rows_in, words_in, table_in}
use Rattle.grammar.specs.Form.{form_of}
use Rattle.texts.specs.Calls.{read_checks, ReadBack, read_of}

abbrev listing : List ℕ
listing = bytes "edition\t2\nrow\topen\t0L1HUXZW-\n"

abbrev slices : Table
slices = lent (7 ∷ 7 ∷ []) (7 ∷ 7 ∷ []) (7 ∷ 7 ∷ []) (7 ∷ 7 ∷ []) []

reads : read_of listing slices
    ≡ record { answer = done (record { rows = 1; records = 0 }); slices = lent (9 ∷ 7 ∷ []) (0 ∷ 7 ∷ []) (31 ∷ 7 ∷ []) (96 ∷ 7 ∷ []) [] }
unfolding read_of read_checks verdict pieces all_of same numeral is_vector line_of headed_by lines_of lines_in first_bad rows_in words_in table_in
reads = refl

form : form_of listing ≡ bytes "edition\t3\nrow\topen\t0011XXXXX\n"
unfolding form_of headed_by lines_in pieces joined same
form = refl

-- a header alone is a text of no rows and no records
header-alone : read_of (bytes "edition\t2\n") slices ≡ record { answer = done (record { rows = 0; records = 0 }); slices = slices }
unfolding read_of read_checks verdict pieces all_of same line_of headed_by lines_of lines_in first_bad rows_in words_in table_in
header-alone = refl

-- and is line 1 for field
header-field : field_of (record { block = 5; offset = 100; bytes = listing }) 1 2 ≡ record { block = 5; offset = 108; bytes = bytes "2" }
unfolding before past part_ends field_ends field_of
header-field = refl

-- refused as 12 at line n, the slices as they were
abbrev Bad : List ℕ → ℕ → Type 0
Bad text n = ◌≡◌ {A = ReadBack} (read_of text slices) (record { answer = refused 12 n; slices = slices })

other-edition : Bad (bytes "edition\t1\n") 1 × Bad (bytes "edition\t4\n") 1 × Bad (bytes "edition\t02\n") 1
unfolding read_of read_checks verdict pieces all_of same line_of headed_by lines_of lines_in first_bad rows_in words_in table_in
other-edition = (refl, refl, refl)

no_end : Bad (bytes "edition\t2") 1
unfolding read_of read_checks verdict pieces all_of same line_of headed_by lines_of lines_in first_bad rows_in words_in table_in
no_end = refl

later-header : Bad (bytes "edition\t2\nedition\t2\n") 2 × Bad (bytes "row\topen\t1\nedition\t2\n") 2
unfolding read_of read_checks verdict pieces all_of same numeral is_vector line_of headed_by lines_of lines_in first_bad rows_in words_in table_in
later-header = (refl, refl)

-- Z without the header, and a small letter
other-letter : Bad (bytes "row\topen\t1\nrow\topen\tZ\n") 2 × Bad (bytes "edition\t2\nrow\topen\tH\nrow\topen\th\n") 3
unfolding read_of read_checks verdict pieces all_of same numeral is_vector line_of headed_by lines_of lines_in first_bad rows_in words_in table_in
other-letter = (refl, refl)
