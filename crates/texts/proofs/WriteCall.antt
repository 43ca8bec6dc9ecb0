-- The size and write calls: each answer, and what is left of the buffer. Assumes nothing.
--   size-refused, size-done                size;   rows_short, records-short   what the two counting loops need
--   written                                what write leaves where it is not refused
--   write-refused, write-short, write_done   write
--   header-room, rows_fit, rows-room, records-fit, records-room   what the header and the two writing loops need
use mathlib.Core.Path.{◌≡◌, sym, ap, ap₂, ◌∙◌}
use mathlib.Core.Bool.{Bool, cond}
use mathlib.Core.List.{List, [], ◌∷◌, ◌++◌, append-nil}
use Rattle.std.specs.Prelude.{Result, Ok, Err}
use Prim.Native.Nat.{ℕ, ◌+◌, ◌≤◌, ◌<◌}
use native.Mathlib.Nat.{zero-add}
use native.Mathlib.Omega.{arith}
use lib.Arith.{le→nltb}
use lib.ListN.{length, get_or, drop}
use lib.Seq.{sets-eq}
use borrow.Author.Tests.{lt-ltb}
use Rattle.bits.specs.Limits.{width_limit}
use Rattle.operations.specs.Faults.{fault}
use Rattle.checks.specs.Check.{Answer, done, refused, leaving, verdict, placed}
use Rattle.checks.specs.Table.{Table}
use Rattle.checks.specs.Checks.{size_checks}
use Rattle.checks.specs.Accepted.{TablePassed}
use Rattle.checks.specs.Model.{lent, judged, reason_number, answer_model, verdict_model}
use Rattle.checks.specs.declared.refusals.Refusal.{Refusal}
use Rattle.checks.proofs.Verdicts.{verdict-passed, verdict-refused, passed-append, done-of-passed}
use Rattle.checks.proofs.Accepts.{passed-of-table, table-of-answer, answer-of-table}
use Rattle.grammar.specs.Limits.{text_limit}
use Rattle.grammar.specs.Lists.{filled}
use Rattle.grammar.specs.Words.{header3}
use Rattle.grammar.specs.Print.{lines_text, row_lines, record_lines, table_lines, text_of}
use Rattle.texts.specs.Calls.{size_of, buffer_short, write_checks, write_of}
use Rattle.grammar.proofs.RecordLines.{words_length}
use Rattle.grammar.proofs.Sizes.{lines-append, text-length, rows-size, records-size}
use Rattle.table_lines.specs.Print.{RowsFit, RecordsFit}
use Rattle.printing.specs.Put.{Holds, Put}
use Rattle.printing.proofs.Puts.{put-length, begin, step, done as put-done}

-- ---- what passing the checks gives

module _ (t : Table) (P : TablePassed t) where
  narrow : (i : ℕ) → i < length t.widths → get_or t.widths i 0 ≤ width_limit
  narrow i h = (P.row_passed i h).width_most

  printable : RecordsFit t.words
  printable = record { whole = words_length t P; known = λ i h. (P.record_passed i h).kind_known }

-- ---- size, by the verdict v of the checks

module _ (t : Table) (v : Result (Unit {0}) Refusal) (found : verdict_model v ≡ judged (size_checks t)) where
  pub size-refused : (r : Refusal) → v ≡ Err r → refused (reason_number r.reason) r.place ≡ size_of t
  unfolding size_of
  size-refused r e =
      sym (sym (ap (λ cs. verdict cs (length (text_of t))) (append-nil (size_checks t)))
      ∙ verdict-refused (size_checks t) [] tt (length (text_of t)) (reason_number r.reason) r.place (sym found ∙ ap verdict_model e))

  module _ (e : v ≡ Ok tt) where
    passed : TablePassed t
    passed = table-of-answer t tt tt (sym found ∙ ap verdict_model e)

    pub rows_short : (length t.locks ≡ length t.widths) × ((ms vs : List ℕ) → length (lines_text (row_lines (lent t.widths t.locks ms vs []))) ≤ text_limit)
    rows_short = (passed.locks_length, λ ms vs. omega (arith, rows-size (lent t.widths t.locks ms vs []) (narrow t passed), passed.rows_most))

    pub records-short : RecordsFit t.words × (length (lines_text (record_lines t)) ≤ text_limit)
    records-short = (printable t passed, omega (arith, records-size t passed, passed.records_most))

    -- the bytes of the header, of the row lines and of the record lines, added
    pub size-done : (n m : ℕ) → n ≡ length (lines_text (row_lines t)) → m ≡ length (lines_text (record_lines t)) → done (length header3 + n + m) ≡ size_of t
    unfolding size_of
    size-done n m f g = ap {B = Answer ℕ} done (ap₂ (λ (x y : ℕ). length header3 + x + y) f g ∙ sym (text-length t)) ∙ sym (answer-of-table t (length (text_of t)) passed)

-- ---- write, by the answer a of size

pub written : (t : Table) (out : List ℕ) → TablePassed t → length (text_of t) ≤ length out → write_of t out ≡ record { answer = done (length (text_of t)); left = filled (text_of t) out }
unfolding write_of write_checks
written t out P h =
    ap (λ (a : Answer ℕ). leaving a out (filled (text_of t) out))
    (done-of-passed (write_checks t (length out)) (length (text_of t))
    (passed-append (size_checks t) (placed 0 (fault (buffer_short t (length out)) 14 ∷ [])) (passed-of-table t P) (le→nltb (length out) (length (text_of t)) h, tt)))

module _ (t : Table) (out : List ℕ) (a : Result ℕ Refusal) (found : answer_model a ≡ size_of t) where
  pub write-refused : (r : Refusal) → a ≡ Err r → record { answer = refused (reason_number r.reason) r.place; left = out } ≡ write_of t out
  unfolding size_of write_of write_checks
  write-refused r e =
      sym (ap (λ (x : Answer ℕ). leaving x out (filled (text_of t) out))
      (verdict-refused (size_checks t) (placed 0 (fault (buffer_short t (length out)) 14 ∷ [])) (length (text_of t)) (length (text_of t)) (reason_number r.reason) r.place (sym found ∙ ap answer_model e)))

  module _ (n : ℕ) (is : a ≡ Ok n) where
    e : done n ≡ size_of t
    e = sym (ap answer_model is) ∙ found

    size_is : TablePassed t × (n ≡ length (text_of t))
    unfolding size_of
    size_is =
        let P = table-of-answer t (length (text_of t)) n (sym e) in
        let same : done n ≡ done (length (text_of t)) = e ∙ answer-of-table t (length (text_of t)) P in
        let m : n ≡ length (text_of t) = cc in
        (P, m)

    pub write-short : length out < n → record { answer = refused 14 0; left = out } ≡ write_of t out
    unfolding write_of write_checks verdict
    write-short h =
        let last = placed 0 (fault (buffer_short t (length out)) 14 ∷ []) in
        let m : n ≡ length (text_of t) = size_is.1 in
        sym (ap (λ (a : Answer ℕ). leaving a out (filled (text_of t) out))
        (verdict-passed (size_checks t) last (length (text_of t)) (passed-of-table t size_is.0)
        ∙ ap (λ (b : Bool). cond b (refused 14 0) (done (length (text_of t)))) (lt-ltb (length out) (length (text_of t)) (omega arith))))

    module _ (hold : n ≤ length out) where
      whole : header3 ++ (lines_text (row_lines t) ++ (lines_text (record_lines t) ++ [])) ≡ text_of t
      unfolding text_of table_lines
      whole = ap (λ (l : List ℕ). header3 ++ l) (ap (λ (l : List ℕ). lines_text (row_lines t) ++ l) (append-nil (lines_text (record_lines t))) ∙ sym (lines-append (row_lines t) (record_lines t)))

      long : length (text_of t) ≤ length out
      long = omega (arith, size_is.1)

      pub rows_fit : RowsFit t.widths t.locks t.masks t.values
      rows_fit =
          let P = size_is.0 in
          record { locks_length = P.locks_length; masks_length = P.masks_length; values_length = P.values_length; narrow = narrow t P }

      pub header-room : Holds out 0 header3
      header-room = omega (arith, long, text-length t)

      pub records-fit : RecordsFit t.words
      records-fit = printable t size_is.0

      module _ {begun : List ℕ} {from : ℕ} (h : Put out begun 0 from header3) where
        pub rows-room : Holds begun from (lines_text (row_lines t))
        rows-room = omega (arith, long, text-length t, h.ends, put-length h)

        module _ {mid : List ℕ} {at : ℕ} (p : Put begun mid from at (lines_text (row_lines t))) where
          pub records-room : Holds mid at (lines_text (record_lines t))
          records-room = omega (arith, long, text-length t, h.ends, put-length h, p.ends, put-length p)

          pub write_done : {new : List ℕ} {end : ℕ} → Put mid new at end (lines_text (record_lines t)) → record { answer = done end; left = new } ≡ write_of t out
          write_done {new} {end} q =
              let rows = lines_text (row_lines t) in
              let records = lines_text (record_lines t) in
              let w : Put out new 0 end (text_of t) =
              put-done (step [] (step (records ++ []) (step (rows ++ (records ++ [])) (begin out 0 (text_of t) (header3 ++ (rows ++ (records ++ []))) whole) h) p) q) in
              let end_is : end ≡ length (text_of t) = w.ends ∙ zero-add (length (text_of t)) in
              let new_is : new ≡ filled (text_of t) out =
              w.text ∙ sets-eq (text_of t) out 0 (omega (arith, long)) ∙ ap (λ (k : ℕ). text_of t ++ drop k out) (zero-add (length (text_of t))) in
              (λ i. record { answer = done (end_is i); left = new_is i }) ∙ sym (written t out size_is.0 long)
