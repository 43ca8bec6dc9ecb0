-- `orders::rows::equal_states` meets its contract: the masks compared, then the values. Assumes nothing.
use mathlib.Core.Path.{sym, ◌∙◌}
use Rattle.steps.specs.States.{held}
use Rattle.orders.proofs.Equal.{values-decide, masks-differ}
use Rattle.orders.proofs.rows.equal_states.Goals as goal

pub returns-then-eq : goal.returns-then-eq
returns-then-eq c =
    c.eq-then-eq.ensures ∙ values-decide c.args.width.now (held c.args.ma.now c.args.va.now) (held c.args.mb.now c.args.vb.now) c.requires.0 c.requires.1 (sym c.eq.ensures ∙ c.if-eq.true)

pub returns-else-eq : goal.returns-else-eq
returns-else-eq c =
    c.if-eq.false ∙ masks-differ c.args.width.now (held c.args.ma.now c.args.va.now) (held c.args.mb.now c.args.vb.now) c.requires.0 c.requires.1 (sym c.eq.ensures ∙ c.if-eq.false)
