-- `checks::named::check_named` meets its contract: the kind; of a load or a store their own checks; else all words below their limits, or test by test. Assumes nothing.
use mathlib.Core.Path.{sym, ap, subst, ◌∙◌}
use mathlib.Core.Bool.{Bool, not}
use lib.Dec.{T}
use Rattle.operations.specs.Record.{words_of}
use Rattle.operations.specs.Faults.{named_faults}
use Rattle.checks.specs.Check.{placed}
use Rattle.checks.proofs.Verdicts.{hits, done-of-passed}
use Rattle.checks.proofs.Naming.{passed-anywhere}
use Rattle.checks.proofs.named.check_named.Goals as goal

pub returns-then-not-is_kind : goal.returns-then-not-is_kind
returns-then-not-is_kind c = c.refuse.ensures ∙ sym (hits _ _ (ap not (sym c.is_kind.ensures ∙ c.if-not-is_kind.true)))

pub returns-then-words_pass : goal.returns-then-words_pass
returns-then-words_pass c =
    let a = c.args in
    let faults = named_faults a.n (words_of a.r) in
    sym (done-of-passed (placed a.i faults) tt (passed-anywhere 0 a.i faults (c.words_pass.ensures c.if-words_pass.true)))

pub has_cells-requires : goal.has_cells-requires
has_cells-requires c = (subst T (sym (sym c.is_kind.ensures ∙ c.if-not-is_kind.false)) tt)

pub check_cells-requires : goal.check_cells-requires
check_cells-requires c = ((subst T (sym (sym c.is_kind.ensures ∙ c.if-not-is_kind.false)) tt), (subst T (sym (sym c.has_cells.ensures ∙ c.if-has_cells.true)) tt))

pub words_pass-requires : goal.words_pass-requires
words_pass-requires c = ((subst T (sym (sym c.is_kind.ensures ∙ c.if-not-is_kind.false)) tt), (subst (λ (b : Bool). T (not b)) (sym (sym c.has_cells.ensures ∙ c.if-has_cells.false)) tt))

pub first_fault-requires : goal.first_fault-requires
first_fault-requires c = ((subst T (sym (sym c.is_kind.ensures ∙ c.if-not-is_kind.false)) tt), (subst (λ (b : Bool). T (not b)) (sym (sym c.has_cells.ensures ∙ c.if-has_cells.false)) tt))
