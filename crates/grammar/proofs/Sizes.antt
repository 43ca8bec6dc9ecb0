-- How many bytes lines have; at most 44 for each row and 27 for each record of a table that passed the checks. Assumes nothing.
--   row-bytes, record-bytes     the bytes of a row line and of a record line;   row-most, record-most   at most 44, at most 27
--   name-most                   a kind's name is no longer than that
--   lines-append, text-length   the bytes of a text are those of its header, of its row lines and of its record lines
--   rows-size, records-size     at most 44 for each row;   at most 27 for each record;   text-size   both, and the header's 10
use mathlib.Core.Path.{◌≡◌, refl, sym, ap, ◌∙◌}
use mathlib.Core.Bool.{Bool}
use mathlib.Core.List.{List, [], ◌∷◌, ◌++◌, map, append_assoc}
use Prim.Native.Nat.{ℕ, zero, suc, ◌+◌, ◌*◌, ◌≤◌, ◌<◌}
use native.Mathlib.Nat.{mul-suc}
use native.Mathlib.Omega.{arith}
use lib.Dec.{T, leb, leb→le}
use lib.ListN.{length, get_or, drop, length-append}
use Rattle.operations.specs.Limits.{record_words}
use Rattle.operations.specs.Kind.{Use, as_row, as_number, as_count, as_base, unused, Kind}
use Rattle.operations.specs.Kinds.{kinds, is_kind, kind_of}
use Rattle.operations.specs.Record.{kind_word, target_word, first_word, second_word, parameter_word, sixth_word, kind_in}
use Rattle.checks.specs.Table.{Table, record_count, record_of}
use Rattle.checks.specs.Accepted.{TablePassed}
use Rattle.checks.proofs.Words.{record-length}
use Rattle.bits.specs.Limits.{width_limit}
use Rattle.bits.specs.Counted.{listed}
use Rattle.grammar.specs.Limits.{row_bytes, record_bytes}
use Rattle.vectors.specs.Lists.{all_of}
use Rattle.grammar.specs.Words.{lf, tab, row_word, op_word, lock_word, header3}
use Rattle.grammar.specs.Print.{decimal, letters_of, LineRow, Line, row_line, record_line, fields_of, joined, line_text, lines_text, line_row, row_lines, record_lines, table_lines, text_of}
use Rattle.grammar.proofs.Decimals.{length-small, length_two, length_three}
use Rattle.grammar.proofs.Letters.{letters-length}
use Rattle.grammar.proofs.LockWords.{lock-length}
use Rattle.grammar.proofs.Names.{kind-passes}
use Rattle.grammar.proofs.WordUses.{WordFits, words-fit}
use Rattle.grammar.proofs.RecordLines.{words-after-kind}

-- ---- a line: each field and the byte after it

total : List (List ℕ) → ℕ
total [] = 0
total (p ∷ ps) = suc (length p) + total ps

line-length : (p : List ℕ) (ps : List (List ℕ)) → length (joined tab (p ∷ ps) ++ lf ∷ []) ≡ total (p ∷ ps)
unfolding joined total
line-length p [] = length-append p (lf ∷ []) ∙ omega arith
line-length p (q ∷ ps) =
    ap length (append_assoc p (tab ∷ joined tab (q ∷ ps)) (lf ∷ [])) ∙ length-append p (tab ∷ (joined tab (q ∷ ps) ++ lf ∷ [])) ∙ omega (arith, line-length q ps)

pub row-bytes : (r : LineRow) → length (line_text (row_line r)) ≡ 6 + length (lock_word r.lock) + r.vector.width
unfolding line_text fields_of total
row-bytes r =
    let letters = letters_of r.vector.width r.vector.mask r.vector.value in
    line-length row_word (lock_word r.lock ∷ letters ∷ []) ∙ omega (arith, letters-length r.vector.width r.vector.mask r.vector.value)

row-most : (r : LineRow) → r.vector.width ≤ width_limit → length (line_text (row_line r)) ≤ row_bytes
row-most r h = omega (arith, row-bytes r, lock-length r.lock)

pub record-bytes : (words : List ℕ) → length words ≡ record_words
    → length (line_text (record_line words))
    ≡ 9 + length (kind_in words).name + length (decimal (target_word words)) + length (decimal (first_word words)) + length (decimal (second_word words)) + length (decimal (parameter_word words)) + length (decimal (sixth_word words))
unfolding line_text fields_of total
record-bytes words e =
    line-length op_word ((kind_in words).name ∷ map decimal (drop 1 words))
    ∙ ap (λ (l : List ℕ). 3 + (suc (length (kind_in words).name) + total (map decimal l))) (words-after-kind words e)
    ∙ omega arith

-- the digits that a word can have, and the byte after them
abbrev room : Use → ℕ
room as_row = 4
room as_number = 3
room as_count = 4
room as_base = 4
room unused = 2

word-length : (n : ℕ) → n ≤ 256 → (u : Use) (w : ℕ) → WordFits u n w → suc (length (decimal w)) ≤ room u
word-length n h as_row w f = omega (arith, length_three w (omega arith))
word-length n h as_number w f = omega (arith, length_two w (omega arith))
word-length n h as_count w f = omega (arith, length_three w (omega arith))
word-length n h as_base w f = omega (arith, length_three w (omega arith))
word-length n h unused w f = omega (arith, length-small w (omega arith))

-- no kind's line is longer: one computed test of all kinds
abbrev longest : Kind → ℕ
longest k = 3 + (length k.name + 1) + room k.use_t + room k.use_a + room k.use_b + room k.use_p + room k.use_c

abbrev line_fits : Kind → Bool
line_fits k = leb (longest k) record_bytes

kinds-fit : T (all_of line_fits kinds)
unfolding all_of kinds
kinds-fit = tt

pub name-most : (k : ℕ) → T (is_kind k) → length (kind_of k).name ≤ record_bytes
name-most k h = omega (arith, leb→le (longest (kind_of k)) record_bytes (kind-passes line_fits kinds-fit k h).0)

record-most : (t : Table) → TablePassed t → (i : ℕ) → i < record_count t → length (line_text (record_line (record_of t i))) ≤ record_bytes
record-most t P i h =
    let words = record_of t i in
    let n = length t.widths in
    let f = words-fit t.widths words (P.record_passed i h) in
    let k = (kind-passes line_fits kinds-fit (kind_word words) (P.record_passed i h).kind_known).0 in
    omega (
      arith,
      record-bytes words (record-length t i h),
      leb→le (longest (kind_in words)) record_bytes k,
      word-length n P.rows_most (kind_in words).use_t (target_word words) f.target,
      word-length n P.rows_most (kind_in words).use_a (first_word words) f.first,
      word-length n P.rows_most (kind_in words).use_b (second_word words) f.second,
      word-length n P.rows_most (kind_in words).use_p (parameter_word words) f.parameter,
      word-length n P.rows_most (kind_in words).use_c (sixth_word words) f.sixth,
    )

-- ---- a text

pub lines-append : (ls ms : List Line) → lines_text (ls ++ ms) ≡ lines_text ls ++ lines_text ms
unfolding lines_text
lines-append [] ms = refl
lines-append (l ∷ ls) ms = ap (λ (x : List ℕ). line_text l ++ x) (lines-append ls ms) ∙ sym (append_assoc (line_text l) (lines_text ls) (lines_text ms))

lines-length : (c : ℕ) (f : ℕ → Line) (i n : ℕ) → ((j : ℕ) → j < i + n → length (line_text (f j)) ≤ c) → length (lines_text (listed f i n)) ≤ c * n
unfolding lines_text listed
lines-length c f i zero h = omega arith
lines-length c f i (suc n) h =
    omega (arith, length-append (line_text (f i)) (lines_text (listed f (suc i) n)), h i (omega arith), lines-length c f (suc i) n (λ j l. h j (omega arith)), mul-suc c n)

pub text-length : (t : Table) → length (text_of t) ≡ length header3 + length (lines_text (row_lines t)) + length (lines_text (record_lines t))
unfolding text_of table_lines
text-length t =
    omega (
      arith,
      length-append header3 (lines_text (row_lines t ++ record_lines t)),
      ap length (lines-append (row_lines t) (record_lines t)),
      length-append (lines_text (row_lines t)) (lines_text (record_lines t)),
    )

pub rows-size : (t : Table) → ((i : ℕ) → i < length t.widths → get_or t.widths i 0 ≤ width_limit) → length (lines_text (row_lines t)) ≤ row_bytes * length t.widths
rows-size t narrow = lines-length row_bytes (λ i. row_line (line_row t i)) 0 (length t.widths) (λ j h. row-most (line_row t j) (narrow j (omega arith)))

pub records-size : (t : Table) → TablePassed t → length (lines_text (record_lines t)) ≤ record_bytes * record_count t
records-size t P = lines-length record_bytes (λ i. record_line (record_of t i)) 0 (record_count t) (λ j h. record-most t P j (omega arith))

pub text-size : (t : Table) → TablePassed t → length (text_of t) ≤ length header3 + row_bytes * length t.widths + record_bytes * record_count t
text-size t P = omega (arith, text-length t, rows-size t (λ i h. (P.row_passed i h).width_most), records-size t P)
