-- Demand 2 on texts: what was written reads back as that table, and what was read is written as its edition-3 form. Assumes nothing.
--   write-of-answer   what a write that is not refused says of the table and the buffer
--   table-back        the text that was written is read as that table, the rest of the slices untouched
--   form-back      the table that was read is written as the edition-3 form of the text, the rest of the buffer untouched
use mathlib.Core.Path.{◌≡◌, sym, ap, ◌∙◌}
use mathlib.Core.List.{List, [], ◌∷◌, ◌++◌}
use Prim.Native.Nat.{ℕ, ◌≤◌}
use native.Mathlib.Omega.{arith}
use lib.Dec.{nltb→le}
use lib.ListN.{length, take}
use Rattle.operations.specs.Faults.{fault}
use Rattle.checks.specs.Check.{done, Passed, placed}
use Rattle.checks.specs.Table.{Table}
use Rattle.checks.specs.Checks.{size_checks}
use Rattle.checks.specs.Accepted.{TablePassed}
use Rattle.checks.proofs.Verdicts.{passed-left, passed-right}
use Rattle.checks.proofs.Leaving.{leaving-passed}
use Rattle.checks.proofs.Accepts.{table-of-passed}
use Rattle.grammar.specs.Lists.{filled}
use Rattle.grammar.specs.Print.{text_of}
use Rattle.grammar.specs.Lines.{table_read}
use Rattle.grammar.proofs.WriteRead.{text-good, text-table}
use Rattle.grammar.proofs.ReadWrite.{table-text}
use Rattle.grammar.proofs.Sizes.{text-size}
use Rattle.texts.specs.Calls.{buffer_short, write_checks, Written, write_of, Counts, counts_of, filled_with, read_of, first_of}
use Rattle.texts.proofs.ReadChecks.{ReadPassed, read-of-answer, answer-of-read}
use Rattle.texts.proofs.ReadLeft.{part-back, read-parts}
use Rattle.texts.proofs.WriteCall.{written}
use Rattle.trips.specs.Trips.{Roomy, TableBack, FormBack}

-- ---- a write that is not refused

pub write-of-answer : (t : Table) (out : List ℕ) (n : ℕ) → (write_of t out).answer ≡ done n → TablePassed t × (length (text_of t) ≤ length out)
unfolding write_of write_checks
write-of-answer t out n e =
    let last = placed 0 (fault (buffer_short t (length out)) 14 ∷ []) in
    let P : Passed (size_checks t ++ last) = leaving-passed out (filled (text_of t) out) (write_checks t (length out)) (length (text_of t)) n e in
    let Q : Passed last = passed-right (size_checks t) last P in
    (table-of-passed t (passed-left (size_checks t) last P), nltb→le (length out) (length (text_of t)) Q.0)

-- ---- written, then read

-- 256 rows and 1,024 records have at most 38,922 bytes
text-read : (t lent : Table) → TablePassed t → Roomy t lent → ReadPassed (text_of t) lent
text-read t lent P R =
    let same = text-table t P in
    record {
      locks_same = R.locks_same;
      masks_same = R.masks_same;
      values_same = R.values_same;
      short = omega (arith, text-size t P, P.rows_most, P.records_most);
      good = text-good t P;
      rows_hold = omega (arith, ap (λ (x : Table). length x.widths) same, R.rows_hold);
      words_hold = omega (arith, ap (λ (x : Table). length x.words) same, R.words_hold);
    }

text-back : (t lent : Table) → TablePassed t → Roomy t lent → read_of (text_of t) lent ≡ record { answer = done (counts_of t); slices = filled_with t lent }
text-back t lent P R =
    answer-of-read (text_of t) lent (text-read t lent P R) ∙ ap (λ (x : Table). record { answer = done (counts_of x); slices = filled_with x lent }) (text-table t P)

pub table-back : (t : Table) (out : List ℕ) (lent : Table) (k : ℕ) → (write_of t out).answer ≡ done k → TableBack t out lent (read_of (take k (write_of t out).left) lent)
table-back t out lent k e n e' R =
    let P = write-of-answer t out k e in
    let is = written t out P.0 P.1 in
    let same : done k ≡ done (length (text_of t)) = sym e ∙ ap (λ (w : Written). w.answer) is in
    let m : k ≡ length (text_of t) = cc in
    ap (λ (x : List ℕ). read_of x lent) (ap (λ (w : Written). take k w.left) is ∙ part-back (text_of t) out k m) ∙ text-back t lent P.0 R

-- ---- read, then written

pub form-back : (text : List ℕ) (lent : Table) (out : List ℕ) (c : Counts) → (read_of text lent).answer ≡ done c → FormBack text lent out (write_of (first_of c (read_of text lent).slices) out)
form-back text lent out c e c' e' n w =
    let t = read-parts text lent c e in
    let t' = read-parts text lent c' e' in
    let P = write-of-answer (table_read text) out n (sym (ap (λ (x : Table). (write_of x out).answer) t') ∙ w) in
    ap (λ (x : Table). write_of x out) t
    ∙ written (table_read text) out P.0 P.1
    ∙ ap (λ (x : List ℕ). record { answer = done (length x); left = filled x out }) (table-text text (read-of-answer text lent c e).good)
