-- `table_lines::fill::survey`: what is counted and what is left make up the whole. Assumes nothing.
use mathlib.Core.Path.{◌≡◌}
use Prim.Native.Nat.{◌-◌}
use lib.ListN.{length}
use Rattle.letters.specs.Model.{edition_model}
use Rattle.table_lines.proofs.Surveys.{Surveying}
use Rattle.table_lines.proofs.fill.survey.Given as goal

abbrev pub invariant-loop-at : goal.invariant-loop-at
invariant-loop-at l = (l.len ≡ length l.text) × Surveying (edition_model l.e) l.first l.text l.at l.n l.rows l.records

abbrev pub decreases-loop-at : goal.decreases-loop-at
decreases-loop-at l = l.len - l.at
