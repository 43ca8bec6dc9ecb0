-- `rifflerleek::rifflerleek_compare_states` meets its contract: what compare_states answers, in the host's struct. Assumes nothing.
use mathlib.Core.Path.{ap, ◌∙◌}
use Prim.Native.Nat.{ℕ}
use Rattle.steps.specs.States.{held}
use Rattle.std.specs.Prelude.{Ok, Err}
use Rattle.rifflerleek.specs.Host.{host_result}
use Rattle.rifflerleek.proofs.HostClocks.{compare-hosted}
use Rattle.rifflerleek.proofs.settle_exports.rifflerleek_compare_states.Goals as goal

pub returns-in-Ok : goal.returns-in-Ok
returns-in-Ok c =
    let m = compare-hosted c.args.width.now (held c.args.mask_1.now c.args.value_1.now) (held c.args.mask_2.now c.args.value_2.now) _ (Ok c.in-Ok.o) c.done.result c.in-Ok.is
    (c.done.ensures ∙ ap (λ (x : ℕ). host_result x 0) c.order_number.ensures) (c.compare_states.ensures.answer, c.compare_states.ensures.means) in
    record { answer = m.0; means = m.1 }

pub returns-in-Err : goal.returns-in-Err
returns-in-Err c =
    let m = compare-hosted c.args.width.now (held c.args.mask_1.now c.args.value_1.now) (held c.args.mask_2.now c.args.value_2.now) _ (Err c.in-Err.r) c.refused.result c.in-Err.is c.refused.ensures (c.compare_states.ensures.answer, c.compare_states.ensures.means) in
    record { answer = m.0; means = m.1 }
