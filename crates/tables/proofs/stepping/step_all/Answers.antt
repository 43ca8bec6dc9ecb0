-- `tables::stepping::step_all` meets its contract. The invariant: the rows are those after the first i records. Assumes nothing.
use native.Mathlib.Omega.{arith}
use mathlib.Core.Path.{◌≡◌, refl, sym, ap, ◌∙◌}
use mathlib.Core.List.{[]}
use Prim.Native.Nat.{ℕ, ◌+◌, ◌/◌}
use lib.ListN.{length}
use Rattle.operations.specs.Limits.{record_words}
use Rattle.checks.specs.Model.{lent}
use Rattle.steps.specs.Step.{after}
use Rattle.tables.specs.Run.{program_of}
use Rattle.steps.specs.States.{held}
use Rattle.tables.proofs.StretchLaws.{at-fits, turn-ready, turn-next}
use Rattle.tables.proofs.stepping.step_all.Goals as goal

pub loop-i-init : goal.loop-i-init
unfolding after
loop-i-init c = (refl, refl, omega arith, refl)

pub step-requires : goal.step-requires
step-requires c =
    let l = c.loop-i in
    turn-ready c.args.width.now c.args.words.now (held c.args.mask.now c.args.value.now) c.requires l.i c.loop-i-test.true
    c.record_at.result c.record_at.ensures (held l.mask l.value) l.invariant.3

pub loop-i-preserved : goal.loop-i-preserved
loop-i-preserved c =
    let l = c.loop-i in
    let n = turn-next c.args.width.now c.args.words.now (held c.args.mask.now c.args.value.now) c.requires l.i c.loop-i-test.true
    c.record_at.result c.record_at.ensures (held l.mask l.value) l.invariant.3 _ c.step.ensures in
    let f = at-fits c.args.width.now c.args.words.now (held c.args.mask.now c.args.value.now) c.requires (l.i + 1) _ n in
    (f.masks_length ∙ sym c.requires.fits.masks_length, f.values_length ∙ sym c.requires.fits.values_length, omega arith, n)

pub returns : goal.returns
returns c =
    let l = c.loop-i in
    let e : l.i ≡ length c.args.words.now / record_words = omega arith in
    l.invariant.3 ∙ ap (λ (n : ℕ). after (program_of (lent c.args.width.now [] [] [] c.args.words.now)) 0 n (held c.args.mask.now c.args.value.now)) e
