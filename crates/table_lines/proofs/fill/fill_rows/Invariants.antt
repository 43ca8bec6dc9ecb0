-- `table_lines::fill::fill_rows`: the rows passed are in the slices, and the rest is still to come. Assumes nothing.
use Prim.Native.Nat.{◌≤◌}
use Rattle.letters.specs.Model.{edition_model}
use Rattle.table_lines.proofs.FillRows.{Filling}
use Rattle.table_lines.proofs.fill.fill_rows.Given as goal

abbrev pub invariant-loop-k : goal.invariant-loop-k
invariant-loop-k l = Filling (edition_model l.e) l.text l.at l.k l.initial.width l.width l.initial.lock l.lock l.initial.mask l.mask l.initial.value l.value × (l.k ≤ l.n)
