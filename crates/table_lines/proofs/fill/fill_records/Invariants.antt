-- `table_lines::fill::fill_records`: the words of the records passed are in the slice, and the rest is still to come. Assumes nothing.
use Rattle.letters.specs.Model.{edition_model}
use Rattle.table_lines.proofs.FillRecords.{Filling}
use Rattle.table_lines.proofs.fill.fill_records.Given as goal

abbrev pub invariant-loop-k : goal.invariant-loop-k
invariant-loop-k l = Filling (edition_model l.e) l.text l.from l.at l.i l.k l.n l.initial.words l.words
