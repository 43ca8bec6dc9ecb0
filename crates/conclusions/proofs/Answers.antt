-- What reset_bits' checks give, passed or not, and what it then answers and leaves. Assumes nothing.
use mathlib.Core.Path.{◌≡◌, refl, sym, ap, ◌∙◌, subst}
use mathlib.Core.Bool.{not}
use mathlib.Core.Logic.{◌≢◌, inl, inr}
use mathlib.Core.List.{List, [], ◌++◌}
use Prim.Native.Nat.{ℕ}
use native.Mathlib.Omega.{arith}
use lib.Dec.{T, T_not, nleb→lt}
use Rattle.bits.specs.Bit.{bit, is_set}
use Rattle.bits.proofs.Bits.{bit-lt, bit-cases}
use Rattle.bits.proofs.Numbers.{is_set-true, is_set-false}
use Rattle.operations.specs.Record.{width_at}
use Rattle.checks.specs.Check.{done, refused, Check, placed, Passed}
use Rattle.checks.specs.Table.{State, Table, start_of, record_count}
use Rattle.checks.specs.Checks.{bit_faults, row_named_faults, run_checks}
use Rattle.checks.specs.Model.{judged}
use Rattle.checks.proofs.Verdicts.{passed-append, passed-left, passed-right, passed-of-done, hits, clears, verdict-passed, verdict-refused}
use Rattle.checks.proofs.Accepts.{accepted-of-passed}
use Rattle.steps.specs.Step.{after}
use Rattle.tables.specs.Run.{Ran, program_of, full_run}
use Rattle.tables.specs.Encoding.{StretchReady}
use Rattle.checks.proofs.Leaving.{leaving-done, leaving-refused, leaving-claims, Meets, meets}
use Rattle.tables.proofs.Demand3.{start_fits}
use Rattle.tables.proofs.FullRuns.{full-ready, full-after}
use Rattle.conclusions.specs.Pass.{ended, pass_rows}
use Rattle.conclusions.specs.Reset.{conclusion, value_of, unknown_faults, naming_checks, reset_checks, reset_of, RestsOn}
use Rattle.conclusions.specs.Encoding.{Named}
use Rattle.conclusions.proofs.Rests.{rests-on}

unset : (n k : ℕ) → T (not (is_set n k)) → bit n k ≡ 0
unset n k u = elim (bit-cases n k) [ inl e ↦ e | inr e ↦ absurd (T_not (is_set n k) u (subst T (sym (is_set-true n k e)) tt)) ]

module _ (t : Table) (i k : ℕ) where
  abbrev row-checks : List Check
  row-checks = placed i (row_named_faults t i)

  abbrev bit_checks : List Check
  bit_checks = placed 0 (bit_faults (width_at t.widths i) k)

  abbrev last_checks : List Check
  last_checks = placed 0 (unknown_faults t i k)

  -- ---- the table, the row and the bit named

  named-of-passed : Passed (naming_checks t i k) → Named t i k
  unfolding naming_checks
  named-of-passed P =
      let Q = passed-right (run_checks t 0 (record_count t)) (row-checks ++ bit_checks) P in
      record {
        passed = P;
        accepted = accepted-of-passed t 0 (record_count t) (passed-left (run_checks t 0 (record_count t)) (row-checks ++ bit_checks) P);
        in_table = record { row_in = nleb→lt _ _ (passed-left row-checks bit_checks Q).0; at_in = nleb→lt _ _ (passed-right row-checks bit_checks Q).0 };
      }

  pub named-of-answer : judged (naming_checks t i k) ≡ done tt → Named t i k
  named-of-answer e = named-of-passed (passed-of-done (naming_checks t i k) tt tt e)

  module _ (N : Named t i k) where
    -- ---- a full run from rows that are copies of those lent

    pub copies-ready : (q : State) → q ≡ start_of t → StretchReady t.widths q t.words
    copies-ready q e = subst (λ (x : State). StretchReady t.widths x t.words) (sym e) (full-ready t N.accepted (start_of t) (start_fits t N.accepted.table))

    pub copies-ran : (q ran : State) → q ≡ start_of t → ran ≡ after (program_of t) 0 (record_count t) q → ran ≡ full_run t (start_of t)
    copies-ran q ran e f = f ∙ ap (after (program_of t) 0 (record_count t)) e ∙ full-after t N.accepted (start_of t) (start_fits t N.accepted.table)

    -- ---- what is answered then

    -- the bit ends X
    pub unknown-refused : bit (ended t i (start_of t)).mask k ≢ 0 → ◌≡◌ {A = Ran} (record { answer = refused 19 0; left = start_of t }) (reset_of t i k)
    unfolding reset_of reset_checks
    unknown-refused e =
        leaving-refused (start_of t) _ (reset_checks t i k) (value_of t i k) 19 0
        (verdict-passed (naming_checks t i k) last_checks tt N.passed ∙ hits _ [] (is_set-true (ended t i (start_of t)).mask k (let l = bit-lt (ended t i (start_of t)).mask k in omega arith)))

    -- it ends known
    pub known-done : bit (ended t i (start_of t)).mask k ≡ 0 → (b : ℕ) → b ≡ value_of t i k → (rows : State) → rows ≡ pass_rows t (conclusion i k b)
        → ◌≡◌ {A = Ran} (record { answer = done b; left = rows }) (reset_of t i k)
    unfolding reset_of reset_checks
    known-done e b f rows g =
        (λ ι. record { answer = done (f ι); left = (g ∙ ap (λ (x : ℕ). pass_rows t (conclusion i k x)) f) ι })
        ∙ leaving-done (start_of t) (pass_rows t (conclusion i k (value_of t i k))) (reset_checks t i k) (value_of t i k)
        (passed-append (naming_checks t i k) last_checks N.passed (passed-of-done last_checks tt tt (clears _ (is_set-false (ended t i (start_of t)).mask k e))))

  -- a refusal before that
  pub naming-refused : (n j : ℕ) → judged (naming_checks t i k) ≡ refused n j → ◌≡◌ {A = Ran} (record { answer = refused n j; left = start_of t }) (reset_of t i k)
  unfolding reset_of reset_checks
  naming-refused n j e =
      leaving-refused (start_of t) _ (reset_checks t i k) (value_of t i k) n j (verdict-refused (naming_checks t i k) last_checks tt tt n j e)

  -- ---- the claim, of every call that is answered

  rests-of-answer : (b : ℕ) → (reset_of t i k).answer ≡ done b → RestsOn t (conclusion i k b) (reset_of t i k).left
  unfolding reset_of reset_checks
  rests-of-answer =
      leaving-claims (start_of t) (pass_rows t (conclusion i k (value_of t i k))) (reset_checks t i k) (value_of t i k) (λ b rows. RestsOn t (conclusion i k b) rows)
      (λ P.
      let N = named-of-passed (passed-left (naming_checks t i k) last_checks P) in
      rests-on t N.accepted (conclusion i k (value_of t i k)) N.in_table
      (record { known = unset (ended t i (start_of t)).mask k (passed-right (naming_checks t i k) last_checks P).0; as_value = refl }))

  pub reset-meets : (a : Ran) → a ≡ reset_of t i k → Meets (reset_of t i k) (λ b rows. RestsOn t (conclusion i k b) rows) a
  reset-meets = meets (reset_of t i k) (λ b rows. RestsOn t (conclusion i k b) rows) rests-of-answer
