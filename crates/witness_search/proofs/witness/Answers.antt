-- `witness_search::witness` meets its contract. What is sought stays sought of the operands at hand, whose choices are choices of the first ones; a turn
-- makes the sum of their masks less. Assumes nothing.
use mathlib.Core.Path.{ap₂}
use mathlib.Core.List.{[], ◌∷◌}
use lib.Bits.{bit_or}
use Rattle.bits.proofs.Words.{or-zero}
use Rattle.witness_search.specs.Witness.{number_of}
use Rattle.witness_search.proofs.Search.{last-choice}
use Rattle.witness_search.proofs.witness.Goals as goal

pub loop-at-init : goal.loop-at-init
loop-at-init c = (c.requires, (λ ns h. h))

pub narrowed-at-requires : goal.narrowed-at-requires
narrowed-at-requires c = let l = c.loop-at in (l.invariant.0, (λ a b. c.loop-at-test.true (ap₂ bit_or a b)))

pub loop-at-smaller : goal.loop-at-smaller
loop-at-smaller c = c.narrowed-at.ensures.less

pub loop-at-preserved : goal.loop-at-preserved
loop-at-preserved c = let n = c.narrowed-at.ensures in (n.sought, (λ ns h. c.loop-at.invariant.1 ns (n.inside ns h)))

pub returns : goal.returns
returns c =
    let l = c.loop-at in
    let a = c.args in
    let z = or-zero l.at.a.mask l.at.b.mask c.loop-at-test.false in
    let m = last-choice (number_of a.kind) a.w a.k a.d l.at l.invariant.0 z.0 z.1 in
    record { covered = l.invariant.1 (l.at.a.value ∷ l.at.b.value ∷ []) m.covered; makes = m.makes }
