-- `pruning::passes::move_down` meets its contract. The invariant: the words before j have moved. Assumes nothing.
use mathlib.Core.Path.{refl, ◌∙◌}
use native.Mathlib.Omega.{arith}
use lib.ListN.{length-set}
use Rattle.pruning.proofs.MovedWords.{moved-start, moved-next, moved-end}
use Rattle.pruning.proofs.passes.move_down.Goals as goal

pub loop-j-init : goal.loop-j-init
loop-j-init c = (omega arith, refl, moved-start c.args.words.now c.args.from c.requires)

pub loop-j-preserved : goal.loop-j-preserved
loop-j-preserved c =
    let l = c.loop-j in
    let e = l.invariant.1 in
    let h = c.loop-j-test.true in (
      omega arith,
      length-set l.words l.j _ ∙ l.invariant.1,
      moved-next c.args.words.now c.args.from c.requires l.words l.j _ (omega arith) c.word_after.ensures l.invariant.2,
    )

pub returns : goal.returns
returns c =
    let l = c.loop-j in
    let e = l.invariant.1 in
    let h = c.loop-j-test.false in
    moved-end c.args.words.now c.args.from c.requires l.words l.j (omega arith) l.invariant.2
