-- A host's answer to run says what run's own answer says, and its refusal 0 is a done run. Assumes nothing.
use mathlib.Core.Path.{◌≡◌, sym, ap, ◌∙◌}
use mathlib.Core.List.{List}
use Prim.Native.Nat.{ℕ, ◌-◌}
use Rattle.checks.specs.Check.{Answer, done, verdict}
use Rattle.checks.specs.Checks.{run_checks}
use Rattle.checks.specs.Table.{Table, start_of}
use Rattle.checks.specs.Model.{answer_model}
use Rattle.checks.proofs.Verdicts.{passed-of-done, done-of-passed}
use Rattle.steps.specs.Step.{after}
use Rattle.tables.specs.Known.{Demand2}
use Rattle.tables.specs.Demand.{Demand3}
use Rattle.tables.specs.Run.{program_of, Ran, run_of}
use Rattle.std.specs.Prelude.{Result}
use Rattle.checks.specs.declared.refusals.Refusal.{Refusal}
use Rattle.tables.specs.Model.{ran}
use Rattle.steps.specs.States.{held}
use Rattle.checks.proofs.Leaving.{leaving-answer}
use Rattle.tables.proofs.RunLaws.{Meets}
use Rattle.rifflerleek.specs.declared.Answer.{Answer as HostAnswer}
use Rattle.rifflerleek.specs.Host.{number_answer, outcome, host_leaves}
use Rattle.rifflerleek.proofs.Numbered.{run-refused}
use Rattle.rifflerleek.proofs.HostLeaves.{told-done}

module _ (t : Table) (first last : ℕ) where
  run-answer : (run_of t first last).answer ≡ verdict (run_checks t first last) last
  unfolding run_of
  run-answer = leaving-answer (start_of t) (after (program_of t) first (last - first) (start_of t)) (verdict (run_checks t first last) last)

  -- a done run answers last
  done-last : (n : ℕ) → (run_of t first last).answer ≡ done n → done n ≡ done last
  done-last n e =
      let v = sym run-answer ∙ e in
      sym v ∙ done-of-passed (run_checks t first last) last (passed-of-done (run_checks t first last) last n v)

  zero-done : (a : Answer ℕ) → a ≡ (run_of t first last).answer → (number_answer a).refusal ≡ 0 → a ≡ done last
  zero-done a e z =
      let d = told-done (run_of t first last) (λ n i r. run-refused t first last n i (sym run-answer ∙ r)) a e z in
      d ∙ done-last (number_answer a).result (sym e ∙ d)

  -- r: run's answer; h: what the host is handed for it
  pub run-hosted : (r : Result ℕ Refusal) (h : HostAnswer) (masks values : List ℕ) → h ≡ number_answer (answer_model r) → Meets t first last (ran r masks values)
      → (outcome h (held masks values) ≡ host_leaves (run_of t first last))
      × ((h.refusal ≡ 0 → Demand2 t first last (held masks values)) × (h.refusal ≡ 0 → Demand3 t first last (held masks values)))
  run-hosted r h masks values e f =
      let is-done : h.refusal ≡ 0 → answer_model r ≡ done last =
      λ z. zero-done (answer_model r) (ap (λ (x : Ran). x.answer) f.0) (ap (λ (a : HostAnswer). a.refusal) (sym e) ∙ z) in (
        ap (λ (a : HostAnswer). outcome a (held masks values)) e ∙ ap host_leaves f.0,
        (λ z. f.1.0 (is-done z), λ z. f.1.1 (is-done z)),
      )
