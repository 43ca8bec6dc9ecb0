-- The round trips over the calls: what each way out has to show. Assumes nothing.
--   write-room, table-trip, not_written   written, then read
--   form-trip, not-read, bytes-trip    read, then written
use mathlib.Core.Path.{◌≡◌, sym, ap, ◌∙◌}
use mathlib.Core.List.{List}
use Rattle.std.specs.Prelude.{Result, Ok, Err}
use Prim.Native.Nat.{ℕ, ◌≤◌}
use native.Mathlib.Omega.{arith}
use lib.ListN.{length, take, drop, length-append}
use Rattle.checks.specs.Check.{done, refused}
use Rattle.checks.specs.Table.{Table}
use Rattle.checks.specs.declared.refusals.Refusal.{Refusal}
use Rattle.checks.specs.Model.{reason_number, answer_model}
use Rattle.grammar.specs.Lists.{filled}
use Rattle.grammar.specs.Print.{text_of}
use Rattle.grammar.proofs.Forms.{form-same}
use Rattle.texts.specs.Calls.{Written, write_of, ReadBack, read_of, first_of}
use Rattle.texts.specs.Model.{write_left, counts_model, read_model, read_left}
use Rattle.texts.specs.declared.Counts.{Counts}
use Rattle.texts.proofs.ReadLeft.{read-answered}
use Rattle.texts.proofs.WriteCall.{written}
use Rattle.trips.specs.Trips.{TableBack, FormBack, BytesBack}
use Rattle.trips.proofs.RoundTrips.{write-of-answer, table-back, form-back}

-- ---- written, then read: by the answer a of write and the buffer that it leaves

module _ (t : Table) (out : List ℕ) (a : Result ℕ Refusal) {new : List ℕ} (found : write_left a new ≡ write_of t out) where
  answer-is : answer_model a ≡ (write_of t out).answer
  answer-is = ap (λ (x : Written). x.answer) found

  pub not_written : (r : Refusal) → a ≡ Err r → (lent : Table) (got : ReadBack) → TableBack t out lent got
  not_written r is lent got n w R =
      let same : refused (reason_number r.reason) r.place ≡ done n = sym (ap answer_model is) ∙ answer-is ∙ w in
      let z : ◌≡◌ {A = ℕ} 0 1 = cc in
      absurd (omega arith)

  module _ (n : ℕ) (is : a ≡ Ok n) where
    answered : (write_of t out).answer ≡ done n
    answered = sym answer-is ∙ ap answer_model is

    pub write-room : n ≤ length new
    write-room =
        let P = write-of-answer t out n answered in
        let left = written t out P.0 P.1 in
        let count : done n ≡ done (length (text_of t)) = sym answered ∙ ap (λ (x : Written). x.answer) left in
        let m : n ≡ length (text_of t) = cc in
        omega (arith, ap (λ (x : Written). length x.left) (found ∙ left), length-append (text_of t) (drop (length (text_of t)) out))

    pub table-trip : (lent : Table) (got : ReadBack) → got ≡ read_of (take n new) lent → TableBack t out lent got
    table-trip lent got g k w R = g ∙ ap (λ (x : Written). read_of (take n x.left) lent) found ∙ table-back t out lent n answered k w R

-- ---- read, then written

-- by the answer a of read and the slices that it leaves
module _ (text : List ℕ) (lent : Table) (a : Result Counts Refusal) {new : Table} (found : read_left a new ≡ read_of text lent) where
  read_is : read_model a ≡ (read_of text lent).answer
  read_is = ap (λ (x : ReadBack). x.answer) found

  pub not-read : (r : Refusal) → a ≡ Err r → (out : List ℕ) (got : Written) → FormBack text lent out got
  not-read r is out got c w n v =
      let same : refused (reason_number r.reason) r.place ≡ done c = sym (ap read_model is) ∙ read_is ∙ w in
      let z : ◌≡◌ {A = ℕ} 0 1 = cc in
      absurd (omega arith)

  module _ (k : Counts) (is : a ≡ Ok k) where
    pub form-trip : (out : List ℕ) (got : Written) → got ≡ write_of (first_of (counts_model k) new) out → FormBack text lent out got
    form-trip out got g j w n v =
        g
        ∙ ap (λ (x : ReadBack). write_of (first_of (counts_model k) x.slices) out) found
        ∙ form-back text lent out (counts_model k) (read-answered text lent a found k is) j w n v

-- a text of edition 3 is its own form
pub bytes-trip : (text : List ℕ) (lent : Table) (out : List ℕ) (got : Written) → FormBack text lent out got → BytesBack text lent out got
bytes-trip text lent out got h third c w n v = h c w n v ∙ ap (λ (x : List ℕ). record { answer = done (length x); left = filled x out }) (form-same text third)
