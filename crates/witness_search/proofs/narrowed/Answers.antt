-- `witness_search::narrowed` meets its contract: the first case where d is possible in it, else the second. Assumes nothing.
use mathlib.Core.Path.{sym, ap, subst, ◌∙◌}
use native.Mathlib.Omega.{arith}
use Rattle.vectors.specs.declared.OutputBit.{OutputBit}
use Rattle.vectors.specs.OutputBits.{output_bit}
use Rattle.operations.specs.Kinds.{kind_of}
use Rattle.operations.specs.Result.{result_of}
use Rattle.witness_search.specs.declared.Operands.{Operands}
use Rattle.witness_search.specs.Witness.{number_of}
use Rattle.witness_search.specs.Search.{rows_of, may_be, Asked, Narrower}
use Rattle.witness_search.proofs.Search.{case-asked, first-case, second-case}
use Rattle.witness_search.proofs.narrowed.Goals as goal

pub operation_bit-requires : goal.operation_bit-requires
operation_bit-requires c =
    let a = c.args in
    subst (Asked (number_of a.kind) a.w a.k) (sym c.case_of-zero.ensures) (case-asked (number_of a.kind) a.w a.k a.d a.o c.requires.0 c.requires.1 0 (omega arith))

pub returns-then-may_be : goal.returns-then-may_be
returns-then-may_be c =
    let a = c.args in
    subst (Narrower (number_of a.kind) a.w a.k a.d a.o) (sym c.case_of-zero.ensures)
    (first-case (number_of a.kind) a.w a.k a.d a.o c.requires.0 c.requires.1 (sym (let a = c.args in
    c.may_be.ensures
    ∙ ap (λ (x : OutputBit). may_be x a.d)
    (c.operation_bit.ensures ∙ ap (λ (o : Operands). output_bit (result_of (kind_of (number_of a.kind)) a.w 0 (rows_of a.w o)) a.k) c.case_of-zero.ensures)) ∙ c.if-may_be.true))

pub returns : goal.returns
returns c =
    let a = c.args in
    subst (Narrower (number_of a.kind) a.w a.k a.d a.o) (sym c.case_of-one.ensures)
    (second-case (number_of a.kind) a.w a.k a.d a.o c.requires.0 c.requires.1 (sym (let a = c.args in
    c.may_be.ensures
    ∙ ap (λ (x : OutputBit). may_be x a.d)
    (c.operation_bit.ensures ∙ ap (λ (o : Operands). output_bit (result_of (kind_of (number_of a.kind)) a.w 0 (rows_of a.w o)) a.k) c.case_of-zero.ensures)) ∙ c.if-may_be.false))
