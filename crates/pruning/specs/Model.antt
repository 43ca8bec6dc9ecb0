-- What prune's answer stands for (01, "Calls": "the result, or a refusal holding its number and its place").
--   pruned   it together with the words that the slice holds at exit
use Rattle.std.specs.Prelude.{List, ℕ, Result}
use Rattle.checks.specs.declared.refusals.Refusal.{Refusal}
use Rattle.checks.specs.Check.{Leaves}
use Rattle.checks.specs.Model.{answer_model}

abbrev pub pruned : Result ℕ Refusal → List ℕ → Leaves (List ℕ)
pruned r words = record { answer = answer_model r; left = words }
