-- What read leaves where it is not refused: the slices hold the table, and their first parts are that table. Assumes nothing.
--   part-back       the first part of a slice that was filled is what it was filled with
--   Room c slices   the slices have the rows and records that c counts
--   read-parts      the first parts of the slices are the table that was read
--   read-answered, read-room   by read's answer: its counts, and the slices hold them
use mathlib.Core.Path.{◌≡◌, refl, sym, ap, ◌∙◌, subst, subst₂}
use mathlib.Core.List.{List, ◌++◌, map}
use Rattle.std.specs.Prelude.{Result, Ok}
use Prim.Native.Nat.{ℕ, ◌*◌, ◌≤◌}
use native.Mathlib.Omega.{arith}
use lib.ListN.{length, take, drop, length-append, length-map}
use lib.Seq.{take_at}
use Rattle.operations.specs.Limits.{record_words}
use Rattle.checks.specs.Check.{done}
use Rattle.checks.specs.Table.{Table, record_count}
use Rattle.grammar.specs.Lists.{filled}
use Rattle.grammar.specs.Print.{LineRow}
use Rattle.grammar.specs.Lines.{lines_in, rows_in, table_in, table_read}
use Rattle.grammar.proofs.ReadWrite.{records-whole}
use Rattle.texts.specs.Calls.{bad_line, Counts, counts_of, ReadBack, filled_with, read_of, first_of}
use Rattle.texts.specs.Model.{counts_model, read_model, read_left}
use Rattle.texts.specs.declared.Counts.{Counts as CountsRead}
use Rattle.checks.specs.declared.refusals.Refusal.{Refusal}
use Rattle.texts.proofs.ReadChecks.{read-of-answer, answer-of-read}

longer : (x y : List ℕ) → length x ≤ length (x ++ y)
longer x y = omega (arith, length-append x y)

pub part-back : (new old : List ℕ) (n : ℕ) → n ≡ length new → take n (filled new old) ≡ new
part-back new old n e = take_at new _ n (sym e)

pub record Room (c : Counts) (new : Table) : Type 0 where
  pub widths_hold : c.rows ≤ length new.widths
  pub locks_hold : c.rows ≤ length new.locks
  pub masks_hold : c.rows ≤ length new.masks
  pub values_hold : c.rows ≤ length new.values
  pub words_hold : record_words * c.records ≤ length new.words

module _ (text : List ℕ) (lent : Table) where
  -- each column has one number a row
  column-length : (f : LineRow → ℕ) → length (table_read text).widths ≡ length (map f (rows_in (lines_in text)))
  unfolding table_in
  column-length f = length-map (rows_in (lines_in text)) (λ r. r.vector.width) ∙ sym (length-map (rows_in (lines_in text)) f)

  filled-room : Room (counts_of (table_read text)) (filled_with (table_read text) lent)
  unfolding table_in
  filled-room =
      record {
        widths_hold = longer (table_read text).widths _;
        locks_hold = column (λ r. r.lock) lent.locks;
        masks_hold = column (λ r. r.vector.mask) lent.masks;
        values_hold = column (λ r. r.vector.value) lent.values;
        words_hold = omega (arith, longer (table_read text).words (drop (length (table_read text).words) lent.words));
      }
    where
      column : (f : LineRow → ℕ) (old : List ℕ) → length (table_read text).widths ≤ length (filled (map f (rows_in (lines_in text))) old)
      column f old = omega (arith, longer (map f (rows_in (lines_in text))) (drop (length (map f (rows_in (lines_in text)))) old), column-length f)

  -- the counts answered say how much of each slice was filled
  counts-back : bad_line text ≡ 0 → first_of (counts_of (table_read text)) (filled_with (table_read text) lent) ≡ table_read text
  unfolding table_in
  counts-back good =
      λ i. record {
        widths = part-back (table_read text).widths lent.widths (length (table_read text).widths) refl i;
        locks = part-back (table_read text).locks lent.locks (length (table_read text).widths) (column-length (λ r. r.lock)) i;
        masks = part-back (table_read text).masks lent.masks (length (table_read text).widths) (column-length (λ r. r.vector.mask)) i;
        values = part-back (table_read text).values lent.values (length (table_read text).widths) (column-length (λ r. r.vector.value)) i;
        words = part-back (table_read text).words lent.words (record_words * record_count (table_read text)) (omega (arith, (records-whole text good).1)) i;
      }

  module _ (c : Counts) (e : (read_of text lent).answer ≡ done c) where
    left : read_of text lent ≡ record { answer = done (counts_of (table_read text)); slices = filled_with (table_read text) lent }
    left = answer-of-read text lent (read-of-answer text lent c e)

    counted : counts_of (table_read text) ≡ c
    counted =
        let same : done c ≡ done (counts_of (table_read text)) = sym e ∙ ap (λ (x : ReadBack). x.answer) left in
        cc

    pub read-parts : first_of c (read_of text lent).slices ≡ table_read text
    read-parts =
        ap (λ (x : ReadBack). first_of c x.slices) left
        ∙ sym (ap (λ (d : Counts). first_of d (filled_with (table_read text) lent)) counted)
        ∙ counts-back (read-of-answer text lent c e).good

    room : Room c (read_of text lent).slices
    room = subst₂ Room counted (sym (ap (λ (x : ReadBack). x.slices) left)) filled-room

  -- by the answer a of read and the slices that it leaves
  module _ (a : Result CountsRead Refusal) {new : Table} (found : read_left a new ≡ read_of text lent) (k : CountsRead) (is : a ≡ Ok k) where
    pub read-answered : (read_of text lent).answer ≡ done (counts_model k)
    read-answered = sym (ap (λ (x : ReadBack). x.answer) found) ∙ ap read_model is

    pub read-room : Room (counts_model k) new
    read-room = subst (Room (counts_model k)) (sym (ap (λ (x : ReadBack). x.slices) found)) (room _ read-answered)
