-- The text of a table that passed the checks is in the grammar and holds that table. Assumes nothing.
--   next-line    the lines of a text, by its first line
--   text-lines   the lines of the text are those of the table;   text-good   none is bad
--   text-table   the table that the text holds is that table
use mathlib.Core.Path.{◌≡◌, refl, ap, ap₂, ◌∙◌}
use mathlib.Core.Bool.{false, not}
use mathlib.Core.List.{List, [], ◌∷◌, ◌++◌, map}
use Prim.Native.Nat.{ℕ, ◌+◌, ◌*◌, ◌≤◌}
use native.Mathlib.Omega.{arith}
use lib.Dec.{T, ltb, eqb, ltb→lt}
use lib.ListN.{length, get_or, drop}
use lib.Seq.{append_snoc}
use Rattle.vectors.specs.Lists.{All, all_of}
use Rattle.operations.specs.Limits.{record_words}
use Rattle.checks.specs.Table.{Table, record_count, record_of}
use Rattle.checks.specs.Accepted.{TablePassed}
use Rattle.bits.specs.Counted.{listed}
use Rattle.grammar.specs.Words.{lf, tab, Edition, edition3, header3}
use Rattle.grammar.specs.Print.{LineRow, Line, row_line, record_line, outside, fields_of, joined, line_text, lines_text, line_row, row_lines, record_lines, table_lines, text_of}
use Rattle.grammar.specs.Cut.{pieces}
use Rattle.grammar.specs.Line.{line_of}
use Rattle.grammar.specs.Lines.{lines_of, lines_from, headed_by, Opening, opening, lines_in, first_bad, rows_in, words_in, table_in, table_read}
use Rattle.grammar.proofs.Tests.{ne→neqb, all_of-imp, same_self}
use Rattle.grammar.proofs.Cuts.{without, pieces-cut, pieces-joined, by_first, all-joined}
use Rattle.grammar.proofs.Names.{clean}
use Rattle.grammar.proofs.LineTrips.{LineFits, line-trip, fields-clean}
use Rattle.vectors.proofs.ListParts.{all_append, listed-all, listed-ext, listed-map}
use Rattle.grammar.proofs.Listed.{listed-get_or, bad-none, rows-listed, words-after, words-listed}
use Rattle.grammar.proofs.Openings.{opening-third, lines_after}
use Rattle.grammar.proofs.RecordLines.{words_length, row_fits, record-fits}

-- ---- lines that fit are read from their text

clean-without : (c : ℕ) → c ≤ 32 → (f : List ℕ) → T (clean f) → T (without c f)
clean-without c h f t = all_of-imp (λ b. ltb 32 b) (λ b. not (eqb b c)) (λ b u. ne→neqb b c (λ e. omega (arith, ltb→lt 32 b u))) f t

cut-fields : (l : Line) → LineFits l → T (all_of (without tab) (fields_of l)) → pieces tab (joined tab (fields_of l)) ≡ fields_of l
unfolding fields_of
cut-fields (row_line r) fits t = pieces-joined tab _ _ t
cut-fields (record_line ws) fits t = pieces-joined tab _ _ t
cut-fields outside fits t = absurd fits

fields-cut : (l : Line) → LineFits l → pieces tab (joined tab (fields_of l)) ≡ fields_of l
fields-cut l fits = cut-fields l fits (all_of-imp clean (without tab) (clean-without tab (omega arith)) (fields_of l) (fields-clean l fits))

no_end : (l : Line) → LineFits l → T (without lf (joined tab (fields_of l)))
no_end l fits = all-joined (λ b. not (eqb b lf)) tab tt (fields_of l) (all_of-imp clean (without lf) (clean-without lf (omega arith)) (fields_of l) (fields-clean l fits))

pub next-line : (e : Edition) (p text : List ℕ) → lines_of e (p ∷ pieces lf text) ≡ line_of e (pieces tab p) ∷ lines_from e text
unfolding lines_of
next-line e p text = by_first (λ (ps : List (List ℕ)). lines_of e (p ∷ ps) ≡ line_of e (pieces tab p) ∷ lines_of e ps) (λ q qs. refl) lf text

lines-read : (ls : List Line) → All LineFits ls → lines_from edition3 (lines_text ls) ≡ ls
unfolding lines_text line_text
lines-read [] h = unfold lines_of pieces in refl
lines-read (l ∷ ls) h =
    ap (λ (x : List ℕ). lines_of edition3 (pieces lf x)) (append_snoc (joined tab (fields_of l)) lf (lines_text ls))
    ∙ ap (lines_of edition3) (pieces-cut lf (joined tab (fields_of l)) (lines_text ls) (no_end l h.0))
    ∙ next-line edition3 (joined tab (fields_of l)) (lines_text ls)
    ∙ ap₂ {C = List Line} ◌∷◌ (ap (line_of edition3) (fields-cut l h.0) ∙ line-trip l h.0) (lines-read ls h.1)

-- a text that begins with the header of edition 3 is of that edition
headed-third : (text : List ℕ) → T (headed_by header3 (header3 ++ text))
unfolding headed_by
headed-third text = same_self header3

lines-in : (ls : List Line) → All LineFits ls → lines_in (header3 ++ lines_text ls) ≡ ls
lines-in ls h =
    let text = header3 ++ lines_text ls in
    lines_after text ∙ ap (λ (o : Opening). lines_from o.edition (drop o.at text)) (opening-third text (headed-third (lines_text ls))) ∙ lines-read ls h

-- ---- a table that passed

module _ (t : Table) (P : TablePassed t) where
  lines_fit : All LineFits (table_lines t)
  unfolding table_lines
  lines_fit =
      all_append LineFits (row_lines t) (record_lines t)
      (listed-all LineFits (λ i. row_line (line_row t i)) 0 (length t.widths) (λ j l h. row_fits t P j (omega arith)))
      (listed-all LineFits (λ i. record_line (record_of t i)) 0 (record_count t) (λ j l h. record-fits t P j (omega arith)))

  pub text-lines : lines_in (text_of t) ≡ table_lines t
  unfolding text_of
  text-lines = lines-in (table_lines t) lines_fit

  pub text-good : first_bad false (opening (text_of t)).first (lines_in (text_of t)) ≡ 0
  unfolding table_lines
  text-good = let first = (opening (text_of t)).first in ap (first_bad false first) text-lines ∙ bad-none (line_row t) (record_of t) first (length t.widths) (record_count t)

  rows_are : rows_in (lines_in (text_of t)) ≡ listed (line_row t) 0 (length t.widths)
  unfolding table_lines
  rows_are = ap rows_in text-lines ∙ rows-listed (line_row t) (record_of t) (record_count t) 0 (length t.widths)

  words_are : words_in (lines_in (text_of t)) ≡ t.words
  unfolding table_lines
  words_are =
      let e : record_words * record_count t ≡ record_words * (0 + record_count t) = omega arith in
      ap words_in text-lines
      ∙ words-after (line_row t) (record_lines t) 0 (length t.widths)
      ∙ words-listed record_words t.words 0 (record_count t) (words_length t P ∙ e)

  column : (f : LineRow → ℕ) (l : List ℕ) → length l ≡ length t.widths → ((i : ℕ) → f (line_row t i) ≡ get_or l i 0) → map f (rows_in (lines_in (text_of t))) ≡ l
  column f l e h =
      ap (map f) rows_are
      ∙ listed-map f (line_row t) 0 (length t.widths)
      ∙ listed-ext (λ i. f (line_row t i)) (λ i. get_or l i 0) 0 (length t.widths) (λ j l u. h j)
      ∙ listed-get_or l 0 0 (length t.widths) (omega (arith, e))

  pub text-table : table_read (text_of t) ≡ t
  unfolding table_in
  text-table =
      λ i. record {
        widths = column (λ r. r.vector.width) t.widths refl (λ j. refl) i;
        locks = column (λ r. r.lock) t.locks P.locks_length (λ j. refl) i;
        masks = column (λ r. r.vector.mask) t.masks P.masks_length (λ j. refl) i;
        values = column (λ r. r.vector.value) t.values P.values_length (λ j. refl) i;
        words = words_are i;
      }
