-- A host's answer to reset_bits says and claims what the call's own answer does. Assumes nothing.
use mathlib.Core.Path.{◌≡◌, sym, ap, ◌∙◌}
use mathlib.Core.List.{List}
use Prim.Native.Nat.{ℕ, ◌≤◌}
use Rattle.checks.specs.Check.{done, refused, verdict}
use Rattle.checks.specs.Table.{Table, start_of}
use Rattle.checks.specs.Model.{answer_model}
use Rattle.steps.specs.States.{held}
use Rattle.checks.proofs.Leaving.{leaving-answer}
use Rattle.conclusions.specs.Pass.{pass_rows}
use Rattle.conclusions.specs.Reset.{conclusion, value_of, reset_checks, reset_of, RestsOn}
use Rattle.std.specs.Prelude.{Result}
use Rattle.checks.specs.declared.refusals.Refusal.{Refusal}
use Rattle.resets.specs.Model.{reset_ran}
use Rattle.rifflerleek.specs.declared.Answer.{Answer as HostAnswer}
use Rattle.rifflerleek.specs.Host.{number_answer, outcome, host_leaves}
use Rattle.rifflerleek.proofs.Numbered.{reset-refused}
use Rattle.rifflerleek.proofs.HostLeaves.{claims-hosted}

module _ (t : Table) (i k : ℕ) where
  numbered : (n j : ℕ) → (reset_of t i k).answer ≡ refused n j → 1 ≤ n
  unfolding reset_of
  numbered n j e = reset-refused t i k n j (sym (leaving-answer (start_of t) (pass_rows t (conclusion i k (value_of t i k))) (verdict (reset_checks t i k) (value_of t i k))) ∙ e)

  -- r: the call's answer, found to be s; h: what the host is handed for it
  pub reset-hosted : (r s : Result ℕ Refusal) (h : HostAnswer) (masks values : List ℕ) → r ≡ s → h ≡ number_answer (answer_model s)
      → (reset_ran r masks values ≡ reset_of t i k) × ((b : ℕ) → answer_model r ≡ done b → RestsOn t (conclusion i k b) (held masks values))
      → (outcome h (held masks values) ≡ host_leaves (reset_of t i k)) × (h.refusal ≡ 0 → RestsOn t (conclusion i k h.result) (held masks values))
  reset-hosted r s h masks values g e f =
      claims-hosted (reset_of t i k) numbered (λ b rows. RestsOn t (conclusion i k b) rows) (answer_model r) h (held masks values) (e ∙ ap (λ (x : Result ℕ Refusal). number_answer (answer_model x)) (sym g)) f
