-- A text of edition 1 with an ite, its edition-3 form, and lines that belong to another edition, computed over the definitions (02, request 11). Assumes nothing.
use mathlib.Core.Path.{◌≡◌, refl}
use mathlib.Core.List.{List, [], ◌∷◌}
use Prim.Native.Nat.{ℕ}
use Rattle.operations.specs.Kind.{bytes}
use Rattle.operations.specs.Kinds.{kinds, kind_of}
use Rattle.checks.specs.Check.{done, refused, verdict}
use Rattle.checks.specs.Table.{Table}
use Rattle.checks.specs.Model.{lent}
use Rattle.grammar.specs.Lists.{same}
use Rattle.vectors.specs.Lists.{all_of}
use Rattle.grammar.specs.Print.{joined}
use Rattle.grammar.specs.Cut.{pieces}
use Rattle.grammar.specs.Line.{numeral, is_number, number_of, is_vector, line_of}
use Rattle.grammar.specs.Lines.{headed_by, lines_of, lines_in, first_bad, rows_in, words_in, table_in}
use Rattle.grammar.specs.Form.{form_of}
use Rattle.texts.specs.Calls.{read_checks, ReadBack, read_of}

abbrev older : List ℕ
older = bytes "row\topen\t1\nop\tite\t0\t0\t0\t7\nop\tshl\t0\t0\t0\t5\n"

-- slices of one row and two records
abbrev slices : Table
slices = lent (9 ∷ []) (9 ∷ []) (9 ∷ []) (9 ∷ []) (9 ∷ 9 ∷ 9 ∷ 9 ∷ 9 ∷ 9 ∷ 9 ∷ 9 ∷ 9 ∷ 9 ∷ 9 ∷ 9 ∷ [])

-- the fourth number of the ite becomes the sixth word, that of the shift stays the parameter
reads : read_of older slices
    ≡ record { answer = done (record { rows = 1; records = 2 }); slices = lent (1 ∷ []) (0 ∷ []) (0 ∷ []) (1 ∷ []) (20 ∷ 0 ∷ 0 ∷ 0 ∷ 0 ∷ 7 ∷ 5 ∷ 0 ∷ 0 ∷ 0 ∷ 5 ∷ 0 ∷ []) }
unfolding read_of read_checks verdict pieces all_of same numeral is_number number_of is_vector line_of headed_by lines_of lines_in first_bad rows_in words_in table_in kinds kind_of
reads = refl

form : form_of older ≡ bytes "edition\t3\nrow\topen\t1\nop\tite\t0\t0\t0\t0\t7\nop\tshl\t0\t0\t0\t5\t0\n"
unfolding form_of headed_by lines_in pieces joined same kinds kind_of
form = refl

-- refused as 12 at line n, the slices as they were
abbrev Bad : List ℕ → ℕ → Type 0
Bad text n = ◌≡◌ {A = ReadBack} (read_of text slices) (record { answer = refused 12 n; slices = slices })

-- a load, and five numbers, in edition 1; four numbers, and Z, in edition 3
other-lines : Bad (bytes "op\tload\t0\t0\t0\t1\n") 1 × Bad (bytes "op\tnot\t0\t0\t0\t0\t0\n") 1 × Bad (bytes "edition\t3\nop\tnot\t0\t0\t0\t0\n") 2 × Bad (bytes "edition\t3\nrow\topen\tZ\n") 2
unfolding read_of read_checks verdict pieces all_of same numeral is_number number_of is_vector line_of headed_by lines_of lines_in first_bad rows_in words_in table_in kinds kind_of
other-lines = (refl, refl, refl, refl)
