-- `vector_calls::inputs::check_kind` meets its contract. Assumes nothing.
use mathlib.Core.Path.{sym, ap, ◌∙◌}
use mathlib.Core.Bool.{not}
use mathlib.Core.List.{[]}
use Rattle.checks.proofs.Verdicts.{hits, clears}
use Rattle.vector_calls.specs.Witnesses.{other_kind}
use Rattle.vector_calls.proofs.inputs.check_kind.Goals as goal

pub returns-then-is_add_sub_mul : goal.returns-then-is_add_sub_mul
returns-then-is_add_sub_mul c = sym (clears (record { fails = other_kind c.args.kind; number = 6; place = 0 }) (ap not (sym c.is_add_sub_mul.ensures ∙ c.if-is_add_sub_mul.true)))

pub returns : goal.returns
returns c =
    c.refuse.ensures ∙ sym (hits (record { fails = other_kind c.args.kind; number = 6; place = 0 }) [] (ap not (sym c.is_add_sub_mul.ensures ∙ c.if-is_add_sub_mul.false)))
