-- What reset_bits' answer stands for (01, "Calls": "the result, or a refusal holding its number and its place").
--   reset_ran   it together with the rows that the slices hold at exit
use Rattle.std.specs.Prelude.{List, ℕ, Result}
use Rattle.checks.specs.declared.refusals.Refusal.{Refusal}
use Rattle.checks.specs.Model.{answer_model}
use Rattle.tables.specs.Run.{Ran}
use Rattle.steps.specs.States.{held}

abbrev pub reset_ran : Result ℕ Refusal → List ℕ → List ℕ → Ran
reset_ran r masks values = record { answer = answer_model r; left = held masks values }
