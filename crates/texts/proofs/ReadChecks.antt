-- What a read that is not refused gives, field by field, both ways. Assumes nothing.
--   ReadPassed text lent   no condition of read's checks holds
--   read-of-passed, passed-of-read   from the checks to the fields, and back
--   read-of-answer, answer-of-read   from the answer to the fields, and back
use mathlib.Core.Path.{◌≡◌, refl, sym, ap, ◌∙◌}
use mathlib.Core.Bool.{not}
use mathlib.Core.List.{List}
use Prim.Native.Nat.{ℕ, ◌≤◌}
use lib.Dec.{T, eqb, eqb→eq, nltb→le}
use lib.Arith.{le→nltb}
use lib.ListN.{length}
use Rattle.bits.proofs.Bools.{eq→eqb, T_not-not, not_not_T}
use Rattle.checks.specs.Check.{Answer, done, refused, verdict, Passed}
use Rattle.checks.specs.Table.{Table}
use Rattle.checks.proofs.Verdicts.{done-of-passed, passed-of-done}
use Rattle.grammar.specs.Limits.{text_limit}
use Rattle.grammar.specs.Lines.{table_read}
use Rattle.texts.specs.Calls.{bad_line, read_checks, Counts, counts_of, read_as, filled_with, read_of}

pub record ReadPassed (text : List ℕ) (lent : Table) : Type 0 where
  pub locks_same : length lent.locks ≡ length lent.widths
  pub masks_same : length lent.masks ≡ length lent.widths
  pub values_same : length lent.values ≡ length lent.widths
  pub short : length text ≤ text_limit
  pub good : bad_line text ≡ 0
  pub rows_hold : length (table_read text).widths ≤ length lent.widths
  pub words_hold : length (table_read text).words ≤ length lent.words

module _ (text : List ℕ) (lent : Table) where
  pub read-of-passed : Passed (read_checks text lent) → ReadPassed text lent
  unfolding read_checks
  read-of-passed P =
      record {
        locks_same = eqb→eq _ _ (T_not-not (eqb (length lent.locks) (length lent.widths)) P.0);
        masks_same = eqb→eq _ _ (T_not-not (eqb (length lent.masks) (length lent.widths)) P.1.0);
        values_same = eqb→eq _ _ (T_not-not (eqb (length lent.values) (length lent.widths)) P.1.1.0);
        short = nltb→le text_limit (length text) P.1.1.1.0;
        good = eqb→eq (bad_line text) 0 (T_not-not (eqb (bad_line text) 0) P.1.1.1.1.0);
        rows_hold = nltb→le (length lent.widths) (length (table_read text).widths) P.1.1.1.1.1.0;
        words_hold = nltb→le (length lent.words) (length (table_read text).words) P.1.1.1.1.1.1.0;
      }

  same : (m n : ℕ) → m ≡ n → T (not (not (eqb m n)))
  same m n e = not_not_T (eqb m n) (eq→eqb e)

  pub passed-of-read : ReadPassed text lent → Passed (read_checks text lent)
  unfolding read_checks
  passed-of-read R = (
    same (length lent.locks) (length lent.widths) R.locks_same,
    (
      same (length lent.masks) (length lent.widths) R.masks_same,
      (
        same (length lent.values) (length lent.widths) R.values_same,
        (
          le→nltb text_limit (length text) R.short,
          (
            same (bad_line text) 0 R.good,
            (
              le→nltb (length lent.widths) (length (table_read text).widths) R.rows_hold,
              (le→nltb (length lent.words) (length (table_read text).words) R.words_hold, tt),
            ),
          ),
        ),
      ),
    ),
  )

  answer-is : (a : Answer Counts) (new : Table) → (read_as a new lent).answer ≡ a
  answer-is (done c) new = refl
  answer-is (refused n i) new = refl

  pub read-of-answer : (c : Counts) → (read_of text lent).answer ≡ done c → ReadPassed text lent
  unfolding read_of
  read-of-answer c e =
      read-of-passed (passed-of-done (read_checks text lent) (counts_of (table_read text)) c (sym (answer-is (verdict (read_checks text lent) (counts_of (table_read text))) (table_read text)) ∙ e))

  pub answer-of-read : ReadPassed text lent → read_of text lent ≡ record { answer = done (counts_of (table_read text)); slices = filled_with (table_read text) lent }
  unfolding read_of
  answer-of-read R = ap (λ (a : Answer Counts). read_as a (table_read text) lent) (done-of-passed (read_checks text lent) (counts_of (table_read text)) (passed-of-read R))
