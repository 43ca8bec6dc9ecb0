-- `needs::second_rows` meets its contract: the word b is a row or unused. Assumes nothing.
use mathlib.Core.Path.{ap, ◌∙◌}
use Rattle.operations.specs.Kinds.{kind_of}
use Rattle.operations.specs.Memory.{span}
use Rattle.operations.proofs.Sound.{second_plain, second-no-number}
use Rattle.needs.specs.Encoding.{rows_told}
use Rattle.needs.proofs.RowWords.{one_word}
use Rattle.needs.proofs.second_rows.Goals as goal

pub returns : goal.returns
returns c =
    let r = c.args.r in
    ap (span r.b) (c.rows_of.ensures ∙ ap rows_told c.second_use.ensures) ∙ one_word (kind_of r.kind).use_b (second_plain r.kind c.requires) (second-no-number r.kind c.requires) r.b
