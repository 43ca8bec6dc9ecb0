-- `vector_calls::inputs::check_operation` meets its contract: the checks of the operands, then 6, then 15. Assumes nothing.
use mathlib.Core.List.{◌++◌}
use Rattle.checks.specs.Check.{placed}
use Rattle.checks.specs.Checks.{two_vector_faults, bit_faults}
use Rattle.vector_calls.specs.Witnesses.{kind_faults}
use Rattle.vector_calls.proofs.inputs.check_operation.Goals as goal

pub returns : goal.returns
returns c =
    let a = c.args in
    let operands = placed 0 (two_vector_faults a.width a.ma a.va a.mb a.vb) in
    let operation = placed 0 (kind_faults a.kind) in
    let number = placed 0 (bit_faults a.width a.bit) in
    c.first_refusal-2.ensures operands (operation ++ number) c.check_two_vectors-operands.ensures
    (c.first_refusal.ensures operation number c.check_kind-operation.ensures c.check_bit-bit_number.ensures)
