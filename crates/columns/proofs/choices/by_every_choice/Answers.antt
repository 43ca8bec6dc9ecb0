-- `by_every_choice` meets its contract. The loop's invariant: every choice above s was tried. Assumes nothing.
use Rattle.std.proofs.Common.{◌≡◌, ℕ, ◌-◌, subst₂, lt_of_le_of_lt, arith}
use lib.Bits.{and_le_l}
use Rattle.columns.proofs.EveryChoice.{joined_word, joined-below, Tried, tried-start, tried-next, every-choice}
use Rattle.columns.proofs.choices.by_every_choice.Goals as goal

pub loop-s-init : goal.loop-s-init
loop-s-init c =
    let a = c.args in
    tried-start c.product-plain.result a.va a.vb _ (joined-below a.ma a.mb c.ranges.ma.fits c.ranges.mb.fits)

pub loop-s-smaller : goal.loop-s-smaller
loop-s-smaller c = let l = and_le_l (c.loop-s.s - 1) _ in lt_of_le_of_lt l (omega arith)

pub loop-s-preserved : goal.loop-s-preserved
loop-s-preserved c =
    let a = c.args in
    let l = c.loop-s in
    tried-next c.product-plain.result a.va a.vb _ (joined-below a.ma a.mb c.ranges.ma.fits c.ranges.mb.fits)
    l.found l.s _ (omega arith) c.chosen-found.ensures l.invariant

pub returns : goal.returns
returns c =
    let a = c.args in
    let l = c.loop-s in
    let z : l.s ≡ 0 = omega arith in
    every-choice a.ma a.va a.mb a.vb c.product-plain.result l.found c.ranges.ma.fits c.product-plain.ensures
    (subst₂ (λ (x y : ℕ). Tried c.product-plain.result a.va a.vb x l.found y) (joined_word a.ma a.mb c.ranges.ma.fits c.ranges.mb.fits) z l.invariant)
