-- The text of the table that a text with no bad line holds is the edition-3 form of that text. Assumes nothing.
--   table-text   that;   records-whole   the words that it holds make up whole records
use mathlib.Core.Path.{◌≡◌, refl, sym, ap, ap₂, ◌∙◌, subst}
use mathlib.Core.Bool.{Bool, true, false, not}
use mathlib.Core.List.{List, [], ◌∷◌, ◌++◌, map}
use Prim.Native.Nat.{ℕ, suc, ◌*◌, ◌/◌}
use native.Mathlib.Nat.{mul-div_cancel, zero-lt-suc}
use native.Mathlib.Omega.{arith}
use lib.Dec.{T}
use lib.ListN.{length, get_or, take, drop, length-map, get_or-map}
use lib.Seq.{append_snoc}
use Rattle.vectors.specs.Row.{row}
use Rattle.vectors.specs.Lists.{All}
use Rattle.operations.specs.Limits.{record_words}
use Rattle.checks.specs.Table.{record_count, record_of}
use Rattle.bits.specs.Counted.{listed}
use Rattle.grammar.specs.Words.{lf, tab, Edition, header3}
use Rattle.grammar.specs.Print.{LineRow, Line, row_line, record_line, outside, fields_of, joined, line_text, lines_text, line_row, row_lines, record_lines, table_lines, text_of}
use Rattle.grammar.specs.Lists.{same}
use Rattle.grammar.specs.Cut.{pieces}
use Rattle.grammar.specs.Line.{line_of}
use Rattle.grammar.specs.Lines.{lines_of, opening, lines_in, first_bad, rows_in, words_in, table_in, table_read}
use Rattle.grammar.specs.Form.{line_form, form_of}
use Rattle.grammar.proofs.LineBacks.{is_outside, Shaped, line-back}
use Rattle.grammar.proofs.Listed.{listed-get_or}
use Rattle.vectors.proofs.ListParts.{listed-ext, listed-map}
use Rattle.grammar.proofs.Openings.{opening-first, opening-known, lines_after}
use Rattle.grammar.proofs.Names.{Known}
use Rattle.grammar.proofs.Sorted.{bad-from-one, rows-first, records_of, Records, records-pass, words-records, words_count, words-cut}

-- no line before the first bad one is outside the grammar
good-here : (later : Bool) (n : ℕ) (l : Line) (ls : List Line) → first_bad later (suc n) (l ∷ ls) ≡ 0 → T (not (is_outside l)) × ((b : Bool) × (first_bad b (suc (suc n)) ls ≡ 0))
unfolding first_bad
good-here true n (row_line r) ls e = absurd (omega arith)
good-here false n (row_line r) ls e = (tt, (false, e))
good-here later n (record_line ws) ls e = (tt, (true, e))
good-here later n outside ls e = absurd (omega arith)

-- the lines that were read by the edition ed print as the edition-3 form of the bytes that they were read from
lines-back : (ed : Edition) → Known ed.operations → (ps : List (List ℕ)) (later : Bool) (n : ℕ) → first_bad later (suc n) (lines_of ed ps) ≡ 0
    → (lines_text (lines_of ed ps) ≡ joined lf (map (line_form ed) ps)) × All Shaped (lines_of ed ps)
unfolding lines_of lines_text line_text joined
lines-back ed known [] b n e = (refl, tt)
lines-back ed known ([] ∷ []) b n e = (unfold pieces in unfold same in refl, tt)
lines-back ed known ((x ∷ p) ∷ []) b n e = absurd (unfold first_bad in omega arith)
lines-back ed known (p ∷ q ∷ ps) b n e =
    let l = line_of ed (pieces tab p) in
    let ls = lines_of ed (q ∷ ps) in
    let h = good-here b n l ls e in
    let here = line-back ed known (pieces tab p) h.0 in
    let rest = lines-back ed known (q ∷ ps) h.1.0 (suc n) h.1.1 in
    (append_snoc (joined tab (fields_of l)) lf (lines_text ls) ∙ ap₂ (λ (x y : List ℕ). x ++ lf ∷ y) (ap (joined tab) here.0) rest.0, (here.1, rest.1))

no_row : LineRow
no_row = record { lock = 0; vector = row 0 0 0 }

module _ (ls : List Line) (good : first_bad false 1 ls ≡ 0) (shaped : All Shaped ls) where
  row_is : (i : ℕ) → line_row (table_in ls) i ≡ get_or (rows_in ls) i no_row
  unfolding table_in no_row
  row_is i =
      λ k. record {
        lock = get_or-map (λ (r : LineRow). r.lock) (rows_in ls) i no_row k;
        vector = record {
          width = get_or-map (λ (r : LineRow). r.vector.width) (rows_in ls) i no_row k;
          mask = get_or-map (λ (r : LineRow). r.vector.mask) (rows_in ls) i no_row k;
          value = get_or-map (λ (r : LineRow). r.vector.value) (rows_in ls) i no_row k;
        };
      }

  rows-lines : row_lines (table_in ls) ≡ map row_line (rows_in ls)
  unfolding table_in
  rows-lines =
      ap (listed (λ i. row_line (line_row (table_in ls) i)) 0) (length-map (rows_in ls) (λ (r : LineRow). r.vector.width))
      ∙ listed-ext (λ i. row_line (line_row (table_in ls) i)) (λ i. row_line (get_or (rows_in ls) i no_row)) 0 (length (rows_in ls)) (λ i l u. ap row_line (row_is i))
      ∙ sym (listed-map row_line (λ i. get_or (rows_in ls) i no_row) 0 (length (rows_in ls)))
      ∙ ap (map row_line) (listed-get_or (rows_in ls) no_row 0 (length (rows_in ls)) (omega arith))

  records : Records (records_of ls)
  records = records-pass 0 ls good shaped

  pub words_whole : length (words_in ls) ≡ length (records_of ls) * record_words
  words_whole = ap length (sym (words-records ls)) ∙ words_count (records_of ls) records

  records-count : record_count (table_in ls) ≡ length (records_of ls)
  unfolding table_in
  records-count = ap (λ (x : ℕ). x / record_words) words_whole ∙ mul-div_cancel (length (records_of ls)) (zero-lt-suc 5)

  records-lines : record_lines (table_in ls) ≡ records_of ls
  unfolding table_in
  records-lines =
      ap (listed (λ i. record_line (record_of (table_in ls) i)) 0) records-count
      ∙ ap (λ (x : List ℕ). listed (λ i. record_line (take record_words (drop (record_words * i) x))) 0 (length (records_of ls))) (sym (words-records ls))
      ∙ words-cut (records_of ls) records [] 0 refl

  table-lines : table_lines (table_in ls) ≡ ls
  unfolding table_lines
  table-lines = ap₂ (λ (x y : List Line). x ++ y) rows-lines records-lines ∙ rows-first 0 ls good

module _ (text : List ℕ) (good : first_bad false (opening text).first (lines_in text) ≡ 0) where
  abbrev ed : Edition
  ed = (opening text).edition

  abbrev parts : List (List ℕ)
  parts = pieces lf (drop (opening text).at text)

  from_one : first_bad false 1 (lines_in text) ≡ 0
  from_one = bad-from-one (opening text).first (lines_in text) (opening-first text).0 good

  backs : (lines_text (lines_of ed parts) ≡ joined lf (map (line_form ed) parts)) × All Shaped (lines_of ed parts)
  backs = lines-back ed (opening-known text) parts false 0 (sym (ap (first_bad false 1) (lines_after text)) ∙ from_one)

  shapes : All Shaped (lines_in text)
  shapes = subst (All Shaped) (sym (lines_after text)) backs.1

  pub records-whole : (n : ℕ) × (length (words_in (lines_in text)) ≡ n * record_words)
  records-whole = (length (records_of (lines_in text)), words_whole (lines_in text) from_one shapes)

  pub table-text : text_of (table_read text) ≡ form_of text
  unfolding text_of form_of
  table-text = ap (λ (l : List ℕ). header3 ++ l) (ap lines_text (table-lines (lines_in text) from_one shapes ∙ lines_after text) ∙ backs.0)
