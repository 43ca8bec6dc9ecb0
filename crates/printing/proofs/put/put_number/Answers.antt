-- `printing::put::put_number`: the leading digits that are left, put from `at` on, make up the whole. Assumes nothing.
use mathlib.Core.Path.{◌≡◌, ap, ◌∙◌}
use Prim.Native.Nat.{ℕ, ◌+◌, ◌-◌, ◌/◌, ◌%◌}
use native.Mathlib.Omega.{arith}
use lib.ListN.{length, set, length-set}
use lib.Seq.{sets}
use Rattle.grammar.specs.Print.{decimal}
use Rattle.grammar.proofs.Decimals.{length-pos, length-large}
use Rattle.printing.proofs.PutWords.{number-last, number-first}
use Rattle.printing.proofs.put.put_number.Goals as goal

pub loop-leading-preserved : goal.loop-leading-preserved
loop-leading-preserved c =
    let l = c.loop-leading in
    let at = c.args.at in
    let lead = decimal (l.leading / 10) in
    let d = 48 + l.leading % 10 in
    let e : l.to - 1 ≡ at + length lead = omega (arith, length-large l.leading c.loop-leading-test.true) in (
      omega arith,
      e,
      length-set l.out (l.to - 1) d ∙ l.invariant.2,
      ap (λ (i : ℕ). sets (set l.out i d) at lead) e ∙ number-last l.out at l.leading c.loop-leading-test.true ∙ l.invariant.3,
    )

pub returns : goal.returns
returns c =
    let l = c.loop-leading in
    record {
      ends = omega arith;
      text = number-first l.out c.args.at l.leading c.loop-leading-test.false ∙ l.invariant.3;
    }

pub overflow_sub-to : goal.overflow_sub-to
overflow_sub-to c = omega (arith, length-pos c.loop-leading.leading)

pub bounds-out-to : goal.bounds-out-to
bounds-out-to c = omega (arith, length-pos c.loop-leading.leading)

pub bounds-out-at : goal.bounds-out-at
bounds-out-at c = omega (arith, length-pos c.args.n)
