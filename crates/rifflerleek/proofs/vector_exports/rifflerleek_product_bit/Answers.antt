-- `rifflerleek::rifflerleek_product_bit` meets its contract: what product_bit answers, in the host's struct. Assumes nothing.
use mathlib.Core.Path.{sym, ap, ◌∙◌}
use Prim.Native.Nat.{ℕ}
use Rattle.checks.specs.Model.{answer_model}
use Rattle.rifflerleek.specs.Host.{host_result, bit_answer}
use Rattle.rifflerleek.proofs.vector_exports.rifflerleek_product_bit.Goals as goal

pub returns-in-Ok : goal.returns-in-Ok
returns-in-Ok c =
    c.done.ensures
    ∙ ap (λ (x : ℕ). host_result x 0) c.bit_number.ensures
    ∙ ap bit_answer (ap answer_model (sym c.in-Ok.is) ∙ c.product_bit.ensures)

pub returns-in-Err : goal.returns-in-Err
returns-in-Err c = c.refused.ensures ∙ ap bit_answer (ap answer_model (sym c.in-Err.is) ∙ c.product_bit.ensures)
