-- `checks::records::record_fits` meets its contract: the widths of the rows that the words name. Assumes nothing.
use mathlib.Core.Path.{sym, subst, ◌∙◌}
use mathlib.Core.Bool.{Bool, not}
use mathlib.Core.List.{[], ◌∷◌}
use native.Mathlib.Omega.{arith}
use lib.ListN.{length}
use lib.Dec.{T}
use Rattle.operations.specs.Kind.{asks}
use Rattle.operations.specs.Record.{width_at}
use Rattle.operations.specs.Encoding.{rule_model}
use Rattle.operations.proofs.Sound.{target-is-row}
use Rattle.checks.proofs.Naming.{named-facts}
use Rattle.checks.proofs.Rules.{no-cells, reads_of, fits-of}
use Rattle.checks.proofs.records.record_fits.Goals as goal

pub width_at-wt-requires : goal.width_at-wt-requires
width_at-wt-requires c =
    let h = (named-facts (length c.args.width.now) c.args.r c.requires).target_in (target-is-row c.args.r.kind (named-facts (length c.args.width.now) c.args.r c.requires).known (subst (λ (b : Bool). T (not b)) (sym (sym c.has_cells.ensures ∙ c.if-has_cells.false)) tt)) in
    omega arith

pub width_at-wa-requires : goal.width_at-wa-requires
width_at-wa-requires c = let h = (named-facts (length c.args.width.now) c.args.r c.requires).first_in in omega arith

pub rule-requires : goal.rule-requires
rule-requires c = (named-facts (length c.args.width.now) c.args.r c.requires).known

pub rule_fits-requires : goal.rule_fits-requires
rule_fits-requires c =
    let none = (subst (λ (b : Bool). T (not b)) (sym (sym c.has_cells.ensures ∙ c.if-has_cells.false)) tt) in
    let f = (named-facts (length c.args.width.now) c.args.r c.requires) in
    let e = c.rule.ensures in
    let small = f.parameter_small none in (
      no-cells c.args.r.kind f.known none c.rule.result e,
      c.width_at-wt.ensures.0,
      c.width_at-wa.ensures.0,
      omega arith,
      reads_of c.args.r.kind f.known none c.rule.result e (length c.args.width.now) c.args.r.b c.args.r.c
          (λ u. let z = f.second_in u in omega arith) (λ u. let z = f.sixth_in u in omega arith),
    )

pub returns : goal.returns
returns c =
    let a = c.args in
    let ws = a.width.now in
    let et = c.width_at-wt.ensures.1 in
    let ea = c.width_at-wa.ensures.1 in
    fits-of a.r.kind (named-facts (length c.args.width.now) c.args.r c.requires).known (subst (λ (b : Bool). T (not b)) (sym (sym c.has_cells.ensures ∙ c.if-has_cells.false)) tt) c.rule.result c.rule.ensures ws a.r.t a.r.a a.r.b a.r.p a.r.c c.rule_fits.result
    (c.rule_fits.ensures
    ∙ (λ ι. asks (rule_model c.rule.result) (et ι) (ea ι ∷ width_at ws a.r.b ∷ width_at ws a.r.c ∷ []) a.r.p))

pub has_cells-requires : goal.has_cells-requires
has_cells-requires c = (named-facts (length c.args.width.now) c.args.r c.requires).known

pub cells_fit-requires : goal.cells_fit-requires
cells_fit-requires c = (c.requires, (subst T (sym (sym c.has_cells.ensures ∙ c.if-has_cells.true)) tt))
