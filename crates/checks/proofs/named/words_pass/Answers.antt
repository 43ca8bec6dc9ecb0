-- `checks::named::words_pass` meets its contract: each word is below its limit. Assumes nothing.
use mathlib.Core.Path.{◌≡◌, sym, subst, ◌∙◌}
use mathlib.Core.Bool.{true, false}
use lib.Dec.{T}
use Rattle.checks.proofs.Naming.{passes}
use Rattle.checks.proofs.named.words_pass.Goals as goal

no-pass : {A : Type 0} → false ≡ true → A
no-pass e = absurd (subst T (sym e) tt)

pub returns : goal.returns
returns c e =
    passes c.args.n c.args.r c.requires.0 c.requires.1 c.word_class-class.result c.uses_second.result c.uses_parameter.result c.uses_sixth.result
    c.word_class-class.ensures c.uses_second.ensures c.uses_parameter.ensures c.uses_sixth.ensures
    (sym c.row_outside.ensures ∙ c.if-row_outside.false)
    (sym c.row_outside-2.ensures ∙ c.if-row_outside-2.false)
    (sym c.word_within.ensures ∙ c.if-not-word_within.false)
    (sym c.word_within-2.ensures ∙ c.if-not-word_within-2.false)
    (sym c.word_within-3.ensures ∙ e)

pub returns-then-row_outside : goal.returns-then-row_outside
returns-then-row_outside c = λ e. no-pass e

pub returns-then-row_outside-2 : goal.returns-then-row_outside-2
returns-then-row_outside-2 c = λ e. no-pass e

pub returns-then-not-word_within : goal.returns-then-not-word_within
returns-then-not-word_within c = λ e. no-pass e

pub returns-then-not-word_within-2 : goal.returns-then-not-word_within-2
returns-then-not-word_within-2 c = λ e. no-pass e
