-- `lines::records::older_record`: the name and the four numbers, and their places. Assumes nothing.
use mathlib.Core.Path.{ap, ◌∙◌}
use native.Mathlib.Omega.{arith}
use Rattle.lines.specs.Model.{record_model}
use Rattle.lines.proofs.KindNames.{all-few}
use Rattle.lines.proofs.ReadRecords.{older-none, older-known, older-good}
use Rattle.lines.proofs.records.older_record.Goals as goal

pub four_numbers-requires : goal.four_numbers-requires
four_numbers-requires c = omega (arith, all-few)

pub six_words-requires : goal.six_words-requires
six_words-requires c =
    let a = c.args in
    older-known a.name.now a.t.now a.a.now a.b.now a.p.now c.four_numbers.result c.four_numbers.ensures _ c.in_ok-r.was

pub returns-in_err-r : goal.returns-in_err-r
returns-in_err-r c =
    let a = c.args in
    ap record_model c.from_residual.ensures ∙ older-none a.name.now a.t.now a.a.now a.b.now a.p.now c.four_numbers.result c.four_numbers.ensures c.in_err-r.was

pub returns : goal.returns
returns c =
    let a = c.args in
    older-good a.name.now a.t.now a.a.now a.b.now a.p.now c.four_numbers.result c.four_numbers.ensures _ c.in_ok-r.was _ c.six_words.ensures
