-- A host's answer to prune says and claims what the call's own answer does. Assumes nothing.
use mathlib.Core.Path.{◌≡◌, sym, ◌∙◌}
use mathlib.Core.List.{List}
use Prim.Native.Nat.{ℕ, ◌≤◌}
use lib.ListN.{length}
use Rattle.checks.specs.Check.{done, refused, verdict}
use Rattle.checks.specs.Table.{Table}
use Rattle.checks.specs.Model.{answer_model}
use Rattle.checks.proofs.Leaving.{leaving-answer}
use Rattle.needs.specs.Needs.{kept_of}
use Rattle.needs.specs.Prune.{prune_checks, moved_down, prune_of, shortened, KeepsMarked}
use Rattle.std.specs.Prelude.{Result}
use Rattle.checks.specs.declared.refusals.Refusal.{Refusal}
use Rattle.pruning.specs.Model.{pruned}
use Rattle.rifflerleek.specs.declared.Answer.{Answer as HostAnswer}
use Rattle.rifflerleek.specs.Host.{number_answer, outcome, host_leaves}
use Rattle.rifflerleek.proofs.Numbered.{prune-refused}
use Rattle.rifflerleek.proofs.HostLeaves.{claims-hosted}

module _ (t : Table) (marks : List ℕ) where
  abbrev Keeps : ℕ → List ℕ → Type 0
  Keeps n words = KeepsMarked t marks n (shortened t n words)

  numbered : (n j : ℕ) → (prune_of t marks).answer ≡ refused n j → 1 ≤ n
  unfolding prune_of
  numbered n j e = prune-refused t marks n j (sym (leaving-answer t.words (moved_down t (kept_of t marks)) (verdict (prune_checks t marks) (length (kept_of t marks)))) ∙ e)

  -- r: the call's answer; h: what the host is handed for it
  pub prune-hosted : (r : Result ℕ Refusal) (h : HostAnswer) (words : List ℕ) → h ≡ number_answer (answer_model r)
      → (pruned r words ≡ prune_of t marks) × ((n : ℕ) → answer_model r ≡ done n → Keeps n words)
      → (outcome h words ≡ host_leaves (prune_of t marks)) × (h.refusal ≡ 0 → Keeps h.result words)
  prune-hosted r h words e f =
      claims-hosted (prune_of t marks) numbered Keeps (answer_model r) h words e f
