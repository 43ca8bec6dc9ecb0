-- `reset_search::visit` meets its contract: an unknown bit stays, and so does a bit with which the conclusion would be lost. Assumes nothing.
use mathlib.Core.Path.{refl, sym, ◌∙◌}
use Rattle.checks.specs.Table.{start_of}
use Rattle.checks.specs.Model.{lent}
use Rattle.conclusions.specs.Pass.{position}
use Rattle.reset_search.proofs.Trials.{bit-of-word, row_room}
use Rattle.conclusions.proofs.Visits.{visit-unknown, visit-lost, visit-kept}
use borrow.Author.Rules.{rules}
use Rattle.reset_search.proofs.visit.Goals as goal
use Rattle.reset_search.proofs.visit.Goals.{else-bit_at-eq0-via-then-bit_at-eq0+else-keeps, else-bit_at-eq0-via-else-bit_at-eq0}

pub bit_at-requires : goal.bit_at-requires
bit_at-requires c = (bit-of-word c.args.width.now _ c.args.words.now c.requires.0.steps c.args.i c.args.k c.requires.1)

pub forget-requires : goal.forget-requires
forget-requires c =
    let room = row_room c.args.width.now _ c.args.words.now c.requires.0.steps _ refl c.args.i c.requires.1.row_in in
    (room.0, room.1, (bit-of-word c.args.width.now _ c.args.words.now c.requires.0.steps c.args.i c.args.k c.requires.1))

pub returns-then-keeps : goal.returns-then-keeps
returns-then-keeps c locks A =
    let t = lent c.args.width.now locks c.args.mask.now c.args.value.now c.args.words.now in
    c.forget.ensures c.args.width.now
    ∙ sym (visit-kept t c.args.c (start_of t) (position c.args.i c.args.k) (sym c.bit_at.ensures ∙ c.if-bit_at-eq0.true) _ (c.keeps.ensures locks A) c.if-keeps.true)

pub returns-else-bit_at-eq0 : goal.returns-else-bit_at-eq0
returns-else-bit_at-eq0 c locks A =
    let t = lent c.args.width.now locks c.args.mask.now c.args.value.now c.args.words.now in
    elim c.else-bit_at-eq0.branch [
      | else-bit_at-eq0-via-then-bit_at-eq0+else-keeps w ↦
          sym (visit-lost t c.args.c (start_of t) (position c.args.i c.args.k) (sym c.bit_at.ensures ∙ w.if-bit_at-eq0.true) _ (w.keeps.ensures locks A) (search rules))
      | else-bit_at-eq0-via-else-bit_at-eq0 w ↦
          sym (visit-unknown t c.args.c (start_of t) (position c.args.i c.args.k) (λ z. w.if-bit_at-eq0.false (c.bit_at.ensures ∙ z)))
    ]
