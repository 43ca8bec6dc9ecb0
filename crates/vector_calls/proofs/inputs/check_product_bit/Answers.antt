-- `vector_calls::inputs::check_product_bit` meets its contract: the checks of the operands, then 15. Assumes nothing.
use Rattle.checks.specs.Check.{placed}
use Rattle.checks.specs.Checks.{two_vector_faults, bit_faults}
use Rattle.vector_calls.specs.Calls.{product_bit_checks}
use Rattle.vector_calls.proofs.inputs.check_product_bit.Goals as goal

pub returns : goal.returns
unfolding product_bit_checks
returns c =
    let a = c.args in
    c.first_refusal.ensures (placed 0 (two_vector_faults a.width a.ma a.va a.mb a.vb)) (placed 0 (bit_faults a.width a.bit))
    c.check_two_vectors-vectors.ensures c.check_bit-number.ensures
