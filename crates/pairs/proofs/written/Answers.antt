-- `pairs::written` meets its contract. The invariant: no record before k writes the row. Assumes nothing.
use mathlib.Core.Path.{◌≡◌, sym, ap, subst, ◌∙◌}
use mathlib.Core.Bool.{Bool, false}
use mathlib.Core.List.{List, []}
use Prim.Native.Nat.{ℕ}
use native.Mathlib.Omega.{arith}
use lib.Dec.{T, eqb}
use Rattle.bits.proofs.Below.{below_next, some_below-true, some_below-false}
use Rattle.vectors.specs.Lists.{some_of}
use Rattle.operations.specs.Kinds.{is_kind}
use Rattle.operations.specs.Record.{kind_word, target_rows}
use Rattle.checks.specs.Table.{record_of}
use Rattle.checks.specs.Model.{lent}
use Rattle.rounds.specs.Settle.{written_row}
use Rattle.pairs.proofs.written.Goals as goal

abbrev test : List ℕ → ℕ → ℕ → Bool
test words i k = some_of (λ j. eqb j i) (target_rows (record_of (lent [] [] [] [] words) k))

pub loop-k-init : goal.loop-k-init
loop-k-init c = (omega arith, λ j h. absurd (omega arith))

pub record_at-requires : goal.record_at-requires
record_at-requires c = c.loop-k-test.true

pub writes-requires : goal.writes-requires
writes-requires c =
    subst (λ (w : List ℕ). T (is_kind (kind_word w))) (sym c.record_at.ensures) (c.requires c.loop-k.k c.loop-k-test.true)

pub returns-then-writes : goal.returns-then-writes
unfolding written_row
returns-then-writes c =
    let a = c.args in
    sym (some_below-true _ (test a.words.now a.i) c.loop-k.k c.loop-k-test.true (sym (c.writes.ensures ∙ ap (λ (w : List ℕ). some_of (λ j. eqb j c.args.i) (target_rows w)) c.record_at.ensures) ∙ c.if-writes.true))

pub loop-k-preserved : goal.loop-k-preserved
loop-k-preserved c =
    let a = c.args in
    (omega arith, below_next (λ j. test a.words.now a.i j ≡ false) c.loop-k.k c.loop-k.invariant.1 (sym (c.writes.ensures ∙ ap (λ (w : List ℕ). some_of (λ j. eqb j c.args.i) (target_rows w)) c.record_at.ensures) ∙ c.if-writes.false))

pub returns : goal.returns
unfolding written_row
returns c =
    let a = c.args in
    sym (some_below-false _ (test a.words.now a.i) (λ j h. c.loop-k.invariant.1 j (omega (arith, c.loop-k-test.false))))
