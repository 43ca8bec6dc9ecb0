-- `lines::records::third_record`: the name and the four numbers, then the fifth. Assumes nothing.
use mathlib.Core.Path.{sym, ap, ◌∙◌}
use Rattle.lines.proofs.KindNames.{all-few}
use Rattle.lines.specs.Model.{record_model}
use Rattle.lines.proofs.ReadRecords.{third-none, third-bad, third-good}
use Rattle.lines.proofs.records.third_record.Goals as goal

pub four_numbers-requires : goal.four_numbers-requires
four_numbers-requires c = all-few

pub returns-in_err-r : goal.returns-in_err-r
returns-in_err-r c =
    let a = c.args in
    ap record_model c.from_residual.ensures ∙ third-none a.name.now a.t.now a.a.now a.b.now a.p.now a.c.now c.four_numbers.result c.four_numbers.ensures c.in_err-r.was

pub returns-in_err-c : goal.returns-in_err-c
returns-in_err-c c =
    let a = c.args in
    ap record_model c.from_residual-in_err-c.ensures ∙ third-bad a.name.now a.t.now a.a.now a.b.now a.p.now a.c.now (sym c.in_err-c.was ∙ c.number.ensures)

pub returns : goal.returns
returns c =
    let a = c.args in
    third-good a.name.now a.t.now a.a.now a.b.now a.p.now a.c.now c.four_numbers.result c.four_numbers.ensures _ c.in_ok-r.was _ (sym c.in_ok-c.was ∙ c.number.ensures)
