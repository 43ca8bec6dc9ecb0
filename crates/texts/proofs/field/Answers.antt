-- `texts::field`: a part of a part. Assumes nothing.
use mathlib.Core.Path.{ap, ◌∙◌}
use Rattle.grammar.specs.Words.{lf, tab}
use Rattle.grammar.specs.Cut.{Part, part_at, part_ends, between, field_ends, field_of}
use Rattle.grammar.proofs.Parts.{part-within}
use Rattle.lines.specs.Model.{lies}
use Rattle.lines.proofs.Scans.{part-part}
use Rattle.texts.proofs.field.Goals as goal

pub returns : goal.returns
unfolding field_of field_ends
returns c =
    let text = lies c.args.text.ref_ptr c.args.text.now in
    let l = part_ends lf c.args.line text.bytes in
    let f = part_ends tab c.args.field (between text.bytes l) in
    let line = c.part-l.ensures in
    c.part.ensures
    ∙ ap (λ (p : Part). part_at p (part_ends tab c.args.field p.bytes)) line
    ∙ part-part text l f (part-within lf c.args.line text.bytes).0 (part-within lf c.args.line text.bytes).1
    (part-within tab c.args.field (between text.bytes l)).0 (part-within tab c.args.field (between text.bytes l)).1
