-- `lines::records::four_numbers`, by its five fields. Assumes nothing.
use mathlib.Core.Path.{sym, ap, ◌∙◌}
use native.Mathlib.Omega.{arith}
use lib.ListN.{take}
use Rattle.operations.specs.Kinds.{kinds}
use Rattle.lines.specs.Model.{record_model}
use Rattle.lines.proofs.ReadRecords.{four-no-name, four-bad, four-good}
use Rattle.lines.proofs.records.four_numbers.Goals as goal

pub returns-in_err-kind : goal.returns-in_err-kind
returns-in_err-kind c =
    let a = c.args in
    ap record_model c.from_residual.ensures ∙ four-no-name a.name.now a.t.now a.a.now a.b.now a.p.now (take a.n kinds) (sym c.in_err-kind.was ∙ c.kind_among.ensures)

pub returns-in_err-t : goal.returns-in_err-t
returns-in_err-t c =
    let a = c.args in
    ap record_model c.from_residual-in_err-t.ensures ∙ four-bad a.name.now a.t.now a.a.now a.b.now a.p.now (take a.n kinds) 0 (omega arith) (sym c.in_err-t.was ∙ c.number.ensures)

pub returns-in_err-a : goal.returns-in_err-a
returns-in_err-a c =
    let a = c.args in
    ap record_model c.from_residual-in_err-a.ensures ∙ four-bad a.name.now a.t.now a.a.now a.b.now a.p.now (take a.n kinds) 1 (omega arith) (sym c.in_err-a.was ∙ c.number-2.ensures)

pub returns-in_err-b : goal.returns-in_err-b
returns-in_err-b c =
    let a = c.args in
    ap record_model c.from_residual-in_err-b.ensures ∙ four-bad a.name.now a.t.now a.a.now a.b.now a.p.now (take a.n kinds) 2 (omega arith) (sym c.in_err-b.was ∙ c.number-3.ensures)

pub returns-in_err-p : goal.returns-in_err-p
returns-in_err-p c =
    let a = c.args in
    ap record_model c.from_residual-in_err-p.ensures ∙ four-bad a.name.now a.t.now a.a.now a.b.now a.p.now (take a.n kinds) 3 (omega arith) (sym c.in_err-p.was ∙ c.number-4.ensures)

pub returns : goal.returns
returns c =
    let a = c.args in
    four-good a.name.now a.t.now a.a.now a.b.now a.p.now (take a.n kinds) _ _ _ _ _
    (sym c.in_ok-kind.was ∙ c.kind_among.ensures)
    (sym c.in_ok-t.was ∙ c.number.ensures)
    (sym c.in_ok-a.was ∙ c.number-2.ensures)
    (sym c.in_ok-b.was ∙ c.number-3.ensures)
    (sym c.in_ok-p.was ∙ c.number-4.ensures)
