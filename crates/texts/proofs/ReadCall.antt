-- The read call: each answer, and what it leaves. Assumes nothing.
--   refuse-locks .. refuse-words   the refusals, in the order of the checks
--   rows-wait, records-wait        what the second pass needs
--   accept                         the slices filled, and both counts
use mathlib.Core.Path.{◌≡◌, refl, sym, ap, ◌∙◌}
use mathlib.Core.Bool.{Bool, false, not, cond}
use mathlib.Core.List.{List, ◌++◌, map}
use Prim.Native.Nat.{ℕ, ◌*◌, ◌/◌, ◌≤◌, ◌<◌}
use native.Mathlib.Nat.{zero-add}
use native.Mathlib.Omega.{arith}
use lib.Dec.{eqb}
use lib.ListN.{length, drop, length-map}
use lib.Seq.{sets, sets-eq}
use borrow.Author.Tests.{eq-eqb, ne_eqb, lt-ltb, le-ltb}
use Rattle.operations.specs.Limits.{record_words}
use Rattle.checks.specs.Check.{Answer, done, refused, verdict}
use Rattle.checks.specs.Table.{Table}
use Rattle.checks.specs.Checks.{locks_differ, masks_differ, values_differ}
use Rattle.grammar.specs.Limits.{text_limit}
use Rattle.grammar.specs.Lists.{filled}
use Rattle.grammar.specs.Print.{LineRow, Line}
use Rattle.grammar.specs.Lines.{lines_from, opening, lines_in, rows_in, words_in, table_in, table_read}
use Rattle.lines.specs.declared.opening.Opening.{Opening}
use Rattle.lines.specs.Model.{opening_model}
use Rattle.texts.specs.Calls.{text_over, bad_line, rows_exceed, words_exceed, read_checks, Counts, counts_of, ReadBack, read_as, read_of}
use Rattle.texts.proofs.ReadChecks.{ReadPassed, answer-of-read}
use Rattle.texts.proofs.Bodies.{edition, body, lines_are, bad-are, good-lines}
use Rattle.table_lines.specs.Fill.{Surveyed, RowsWait, RowsRead, RecordsWait, RecordsRead}

-- the answer, by the seven conditions in their order
abbrev chosen : Bool → Bool → Bool → Bool → Bool → Bool → Bool → ℕ → Counts → Answer Counts
chosen a b c d e f g n k =
    cond a (refused 2 0) (cond b (refused 2 0) (cond c (refused 2 0) (cond d (refused 11 0) (cond e (refused 12 n) (cond f (refused 13 0) (cond g (refused 13 0) (done k)))))))

module _ (text : List ℕ) (lent : Table) where
  by-conditions : read_of text lent
      ≡ read_as (chosen (locks_differ lent) (masks_differ lent) (values_differ lent) (text_over text) (not (eqb (bad_line text) 0)) (rows_exceed (table_read text) lent) (words_exceed (table_read text) lent) (bad_line text) (counts_of (table_read text)))
      (table_read text) lent
  unfolding read_of read_checks verdict
  by-conditions = refl

  -- a refusal leaves the slices as they were
  abbrev Leaves : ℕ → ℕ → Type 0
  Leaves number place = ◌≡◌ {A = ReadBack} (record { answer = refused number place; slices = lent }) (read_of text lent)

  abbrev over : Bool
  over = text_over text

  abbrev bad : Bool
  bad = not (eqb (bad_line text) 0)

  abbrev rows_over : Bool
  rows_over = rows_exceed (table_read text) lent

  abbrev words_over : Bool
  words_over = words_exceed (table_read text) lent

  abbrev gives : Bool → Bool → Bool → Bool → Bool → Bool → Bool → ReadBack
  gives a b c d e f g = read_as (chosen a b c d e f g (bad_line text) (counts_of (table_read text))) (table_read text) lent

  pub refuse-locks : (length lent.locks ≡ length lent.widths → ⊥) → Leaves 2 0
  refuse-locks h = sym (by-conditions ∙ (λ i. gives (not (ne_eqb _ _ h i)) (masks_differ lent) (values_differ lent) over bad rows_over words_over))

  module _ (el : length lent.locks ≡ length lent.widths) where
    pub refuse-masks : (length lent.masks ≡ length lent.widths → ⊥) → Leaves 2 0
    refuse-masks h = sym (by-conditions ∙ (λ i. gives (not (eq-eqb _ _ el i)) (not (ne_eqb _ _ h i)) (values_differ lent) over bad rows_over words_over))

    module _ (em : length lent.masks ≡ length lent.widths) where
      pub refuse-values : (length lent.values ≡ length lent.widths → ⊥) → Leaves 2 0
      refuse-values h = sym (by-conditions ∙ (λ i. gives (not (eq-eqb _ _ el i)) (not (eq-eqb _ _ em i)) (not (ne_eqb _ _ h i)) over bad rows_over words_over))

      module _ (ev : length lent.values ≡ length lent.widths) where
        pub refuse-length : text_limit < length text → Leaves 11 0
        refuse-length h = sym (by-conditions ∙ (λ i. gives (not (eq-eqb _ _ el i)) (not (eq-eqb _ _ em i)) (not (eq-eqb _ _ ev i)) (lt-ltb text_limit (length text) h i) bad rows_over words_over))

        module _ (short : length text ≤ text_limit) where
          short-is : text_over text ≡ false
          short-is = le-ltb text_limit (length text) short

          module _ (o : Opening) (opened : opening_model o ≡ opening text) (rows records n : ℕ) (s : Surveyed (edition o) o.first (body text o) n rows records) where
            bad_is : n ≡ bad_line text
            bad_is = s.bad_is ∙ bad-are text o opened

            pub refuse-line : (n ≡ 0 → ⊥) → Leaves 12 n
            refuse-line h =
                ap (λ (k : ℕ). record { answer = refused 12 k; slices = lent }) bad_is
                ∙ sym (by-conditions ∙ (λ i. gives (not (eq-eqb _ _ el i)) (not (eq-eqb _ _ em i)) (not (eq-eqb _ _ ev i)) (short-is i) (not (ne_eqb (bad_line text) 0 (λ e. h (bad_is ∙ e)) i)) rows_over words_over))

            module _ (zero-bad : n ≡ 0) where
              good : bad_line text ≡ 0
              good = sym bad_is ∙ zero-bad

              rows_in_lem : length (rows_in (lines_in text)) ≡ rows
              rows_in_lem = ap (λ (ls : List Line). length (rows_in ls)) (lines_are text o opened) ∙ sym (s.rows_is zero-bad)

              rows_are : length (table_read text).widths ≡ rows
              unfolding table_in
              rows_are = length-map (rows_in (lines_in text)) (λ r. r.vector.width) ∙ rows_in_lem

              words_are : length (table_read text).words ≡ record_words * records
              unfolding table_in
              words_are = ap (λ (ls : List Line). length (words_in ls)) (lines_are text o opened) ∙ sym (s.words_is zero-bad)

              abbrev passed : Bool → Bool → ReadBack
              passed f g = gives false false false false false f g

              so_far : read_of text lent ≡ passed rows_over words_over
              so_far = by-conditions ∙ (λ i. gives (not (eq-eqb _ _ el i)) (not (eq-eqb _ _ em i)) (not (eq-eqb _ _ ev i)) (short-is i) (not (eq-eqb (bad_line text) 0 good i)) rows_over words_over)

              pub refuse-rows : length lent.widths < rows → Leaves 13 0
              refuse-rows h = sym (so_far ∙ (λ i. passed (lt-ltb (length lent.widths) (length (table_read text).widths) (omega (arith, h, rows_are)) i) words_over))

              module _ (hold : rows ≤ length lent.widths) where
                pub refuse-words : length lent.words < record_words * records → Leaves 13 0
                refuse-words h =
                    sym (so_far
                    ∙ (λ i. passed (le-ltb (length lent.widths) (length (table_read text).widths) (omega (arith, hold, rows_are)) i)
                    (lt-ltb (length lent.words) (length (table_read text).words) (omega (arith, h, words_are)) i)))

                pub rows-wait : RowsWait (edition o) (body text o) rows lent.widths lent.locks lent.masks lent.values
                rows-wait =
                    record {
                      good = good-lines text o opened good;
                      count = s.rows_is zero-bad;
                      widths_hold = hold;
                      locks_hold = omega (arith, hold, el);
                      masks_hold = omega (arith, hold, em);
                      values_hold = omega (arith, hold, ev);
                    }

                module _ (words_hold : record_words * records ≤ length lent.words) {at : ℕ} {ws ls ms vs : List ℕ}
                    (a : RowsRead (edition o) (body text o) at lent.widths ws lent.locks ls lent.masks ms lent.values vs) where
                  pub records-wait : RecordsWait (edition o) (body text o) at records lent.words
                  records-wait = record { inside = a.inside; good = a.good_left; count = s.words_is zero-bad ∙ sym (ap length a.words_left); words_hold = words_hold }

                  put : (old x : List ℕ) → length x ≤ length old → sets old 0 x ≡ filled x old
                  put old x h = sets-eq x old 0 (omega arith) ∙ ap (λ (k : ℕ). x ++ drop k old) (zero-add (length x))

                  column : (f : LineRow → ℕ) (old : List ℕ) → rows ≤ length old → sets old 0 (map f (rows_in (lines_in text))) ≡ filled (map f (rows_in (lines_in text))) old
                  column f old h = put old (map f (rows_in (lines_in text))) (omega (arith, h, length-map (rows_in (lines_in text)) f, rows_in_lem))

                  in-text : (f : LineRow → ℕ) (old : List ℕ) → rows ≤ length old → sets old 0 (map f (rows_in (lines_from (edition o) (body text o)))) ≡ filled (map f (rows_in (lines_in text))) old
                  in-text f old h = ap (λ (ls : List Line). sets old 0 (map f (rows_in ls))) (sym (lines_are text o opened)) ∙ column f old h

                  passes : ReadPassed text lent
                  passes =
                      record {
                        locks_same = el;
                        masks_same = em;
                        values_same = ev;
                        short = short;
                        good = good;
                        rows_hold = omega (arith, hold, rows_are);
                        words_hold = omega (arith, words_hold, words_are);
                      }

                  pub accept : {words : List ℕ} → RecordsRead (edition o) (body text o) at lent.words words
                      → record { answer = done (record { rows = rows; records = records }); slices = record { widths = ws; locks = ls; masks = ms; values = vs; words = words } } ≡ read_of text lent
                  unfolding table_in
                  accept {words} w =
                      let records-are : records ≡ length (table_read text).words / record_words = omega (arith, words_are) in
                      let widths-is = a.widths_are ∙ in-text (λ r. r.vector.width) lent.widths hold in
                      let locks-is = a.locks_are ∙ in-text (λ r. r.lock) lent.locks (omega (arith, hold, el)) in
                      let masks-is = a.masks_are ∙ in-text (λ r. r.vector.mask) lent.masks (omega (arith, hold, em)) in
                      let values-is = a.values_are ∙ in-text (λ r. r.vector.value) lent.values (omega (arith, hold, ev)) in
                      let words_is = w.words_are ∙ ap (sets lent.words 0) (a.words_left ∙ ap words_in (sym (lines_are text o opened))) ∙ put lent.words (words_in (lines_in text)) (omega (arith, words_hold, words_are)) in
                      (λ i. record {
                        answer = done (record { rows = sym rows_are i; records = records-are i });
                        slices = record { widths = widths-is i; locks = locks-is i; masks = masks-is i; values = values-is i; words = words_is i };
                      })
                      ∙ sym (answer-of-read text lent passes)
