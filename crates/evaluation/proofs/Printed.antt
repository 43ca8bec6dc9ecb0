-- What the calls leave, as what is printed. Assumes nothing.
use mathlib.Core.Path.{◌≡◌, sym, ap, ◌∙◌, subst}
use mathlib.Core.List.{List}
use Rattle.std.specs.Prelude.{Result, Ok, Err}
use Prim.Native.Nat.{ℕ, ◌≤◌}
use native.Mathlib.Omega.{arith}
use lib.ListN.{length, drop, length-append}
use Rattle.checks.specs.Check.{Answer, done, refused}
use Rattle.checks.specs.Model.{reason_number}
use Rattle.checks.specs.declared.refusals.Refusal.{Refusal}
use Rattle.checks.specs.Table.{State, Table, start_of, with_rows, record_count}
use Rattle.checks.specs.Accepted.{Accepted}
use Rattle.tables.specs.Run.{Ran, program_of, run_of}
use Rattle.steps.specs.States.{StateFits}
use Rattle.tables.proofs.Points.{after-fits}
use Rattle.tables.proofs.Demand3.{ran-done, accepted-of-run, accepted-with, start_fits}
use Rattle.checks.proofs.Verdicts.{not_done}
use Rattle.grammar.specs.Print.{text_of}
use Rattle.grammar.specs.Lists.{filled}
use Rattle.grammar.proofs.Sizes.{text-size}
use Rattle.texts.specs.Calls.{Written, write_of, Counts, ReadBack, read_of, first_of}
use Rattle.texts.specs.Model.{write_left}
use Rattle.texts.proofs.ReadLeft.{read-parts}
use Rattle.texts.proofs.WriteCall.{written}
use Rattle.evaluation.specs.Evaluate.{Printed, Told, output_room, refused_line, printed_run, printed_table, printed_read, evaluate_in}

module _ (t : Table) where
  -- run refused
  pub printed-refused : (n i : ℕ) (rows : State) → ◌≡◌ {A = Ran} (record { answer = refused n i; left = rows }) (run_of t 0 (record_count t)) → refused_line n i ≡ printed_table t
  unfolding printed_table
  printed-refused n i rows e = ap (λ (r : Ran). printed_run t r r.answer) e

  -- run accepted: the table that is written
  pub printed-done : (m : ℕ) (rows : State) → ◌≡◌ {A = Ran} (record { answer = done m; left = rows }) (run_of t 0 (record_count t)) → text_of (with_rows t rows) ≡ printed_table t
  unfolding printed_table
  printed-done m rows e = ap (λ (r : Ran). printed_run t r r.answer) e

  -- and its text fits the output buffer
  pub written-done : (m : ℕ) (rows : State) → ◌≡◌ {A = Ran} (record { answer = done m; left = rows }) (run_of t 0 (record_count t)) → (out : List ℕ) → output_room ≤ length out
      → write_of (with_rows t rows) out ≡ record { answer = done (length (text_of (with_rows t rows))); left = filled (text_of (with_rows t rows)) out }
  written-done m rows e out h = written (with_rows t rows) out passed.table (omega (arith, text-size (with_rows t rows) passed.table, passed.table.rows_most, passed.table.records_most))
    where
      accepted : Accepted t 0 (record_count t)
      accepted = accepted-of-run t 0 (record_count t) m (sym (ap (λ (r : Ran). r.answer) e))

      passed : Accepted (with_rows t rows) 0 (record_count t)
      passed =
          accepted-with t 0 (record_count t) accepted rows
          (subst (StateFits t.widths) (sym (ap (λ (r : Ran). r.left) (e ∙ ran-done t 0 (record_count t) accepted))) (after-fits (program_of t) 0 (start_of t) (start_fits t accepted.table) _))
          (record_count t) accepted.ordered (omega arith)

done-same : (a b : ℕ) → ◌≡◌ {A = Answer ℕ} (done a) (done b) → a ≡ b
done-same a b e = cc

-- ---- what the functions answer and leave

pub printed-as : {x y : List ℕ} {r : ℕ} {old new : List ℕ} → x ≡ y → Printed x r old new → Printed y r old new
printed-as {old = old} e p = record { count = p.count ∙ ap length e; buffer = p.buffer ∙ ap (λ (l : List ℕ). filled l old) e }

pub told-as : {x y : List ℕ} (a : Result ℕ Refusal) (old new : List ℕ) → x ≡ y → Told x a old new → Told y a old new
told-as (Ok n) old new e p = printed-as e p
told-as (Err r) old new e p = (p.0 ∙ e, p.1)

-- a refusal r that is handed on as the answer a
pub told-refused : {x old new : List ℕ} (a : Result ℕ Refusal) (r : Refusal) → a ≡ Err r → refused_line (reason_number r.reason) r.place ≡ x → new ≡ old → Told x a old new
told-refused {x} {old} {new} a r e p q = subst (λ (b : Result ℕ Refusal). Told x b old new) (sym e) (p, q)

-- by the answer a that was told: the whole table, and the line of a refusal r that is put after it
module _ {x old mid : List ℕ} (a : Result ℕ Refusal) (told : Told x a old mid) where
  pub told-table : (n : ℕ) → a ≡ Ok n → Printed x n old mid
  told-table n e = subst (λ (b : Result ℕ Refusal). Told x b old mid) e told

  pub told-line : (r : Refusal) → a ≡ Err r → (n k : ℕ) (new : List ℕ) → n ≡ reason_number r.reason → Printed (refused_line n r.place) k mid new → Printed x k old new
  told-line r e n k new f p =
      let h : Told x (Err r) old mid = subst (λ (b : Result ℕ Refusal). Told x b old mid) e told in
      subst (λ (o : List ℕ). Printed x k o new) h.1 (printed-as (ap (λ (j : ℕ). refused_line j r.place) f ∙ h.0) p)

-- the bytes counted are there
pub printed-within : {x : List ℕ} {r : ℕ} {old new : List ℕ} → Printed x r old new → r ≤ length new
printed-within {x} {old = old} p = let e = ap length p.buffer ∙ length-append x (drop (length x) old) in let f = p.count in omega arith

module _ (t : Table) (m : ℕ) (rows : State) (e : ◌≡◌ {A = Ran} (record { answer = done m; left = rows }) (run_of t 0 (record_count t))) (old : List ℕ) (h : output_room ≤ length old) where
  pub print-written : (n : ℕ) (new : List ℕ) → ◌≡◌ {A = Written} (record { answer = done n; left = new }) (write_of (with_rows t rows) old) → Printed (printed_table t) n old new
  print-written n new w =
      let q = w ∙ written-done t m rows e old h in
      printed-as (printed-done t m rows e)
      (record { count = done-same n (length (text_of (with_rows t rows))) (ap (λ (x : Written). x.answer) q); buffer = ap (λ (x : Written). x.left) q })

  -- write does not refuse what run accepted
  pub never-refused : (n i : ℕ) (new : List ℕ) → ◌≡◌ {A = Written} (record { answer = refused n i; left = new }) (write_of (with_rows t rows) old) → ⊥
  never-refused n i new w = not_done n i (length (text_of (with_rows t rows))) (ap (λ (x : Written). x.answer) (w ∙ written-done t m rows e old h))

  -- so its answer is the whole table
  pub told-written : (a : Result ℕ Refusal) (new : List ℕ) → write_left a new ≡ write_of (with_rows t rows) old → Told (printed_table t) a old new
  told-written (Ok n) new w = print-written n new w
  told-written (Err r) new w = absurd (never-refused _ _ new w)

-- ---- read

module _ (text : List ℕ) (lent : Table) where
  pub evaluated_refused : (n i : ℕ) (slices : Table) → ◌≡◌ {A = ReadBack} (record { answer = refused n i; slices = slices }) (read_of text lent) → refused_line n i ≡ evaluate_in text lent
  unfolding evaluate_in
  evaluated_refused n i slices e = ap (λ (b : ReadBack). printed_read text b.answer) e

  pub evaluated-read : (c : Counts) (slices : Table) → ◌≡◌ {A = ReadBack} (record { answer = done c; slices = slices }) (read_of text lent) → printed_table (first_of c slices) ≡ evaluate_in text lent
  unfolding evaluate_in
  evaluated-read c slices e =
      ap printed_table (ap (λ (b : ReadBack). first_of c b.slices) e ∙ read-parts text lent c (sym (ap (λ (b : ReadBack). b.answer) e)))
      ∙ ap (λ (b : ReadBack). printed_read text b.answer) e
