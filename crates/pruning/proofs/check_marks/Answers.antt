-- `pruning::check_marks` meets its contract: the number of the marks, then each mark. The invariant: no mark before the one looked at is over 1. Assumes nothing.
use mathlib.Core.Path.{◌≡◌, sym, ap, ◌∙◌}
use mathlib.Core.Bool.{Bool, false, not}
use mathlib.Core.List.{List}
use Prim.Native.Nat.{ℕ}
use native.Mathlib.Omega.{arith}
use lib.Dec.{ltb}
use lib.ListN.{get_or}
use Rattle.bits.proofs.Below.{below_next, some_below-false}
use Rattle.checks.proofs.Verdicts.{skips, clears}
use borrow.Author.Tests.{eq-eqb, le-ltb}
use Rattle.pruning.proofs.check_marks.Goals as goal

pub loop-mark-init : goal.loop-mark-init
loop-mark-init c = (omega arith, omega arith, λ k h. absurd (omega arith))

-- as many marks as rows: the verdict is on each mark
abbrev over : List ℕ → ℕ → Bool
over marks k = ltb 1 (get_or marks k 0)

pub loop-mark-preserved : goal.loop-mark-preserved
loop-mark-preserved c =
    let a = c.args in
    (c.loop-mark.invariant.0, omega arith, below_next (λ k. over a.marks.now k ≡ false) c.loop-mark.mark-index c.loop-mark.invariant.2 (le-ltb _ _ (omega arith)))

pub returns : goal.returns
returns c =
    let a = c.args in
    sym (skips _ _ (ap not (eq-eqb _ _ c.loop-mark.invariant.0)) ∙ clears _ (some_below-false _ (over a.marks.now) (λ k h. c.loop-mark.invariant.2 k (let g = c.loop-mark-test.false in omega arith))))
