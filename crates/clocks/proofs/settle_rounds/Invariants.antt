-- `clocks::settle_rounds` meets its contract. The invariant: the rows are those from which the next round starts, and no round before it was the last. Assumes nothing.
use mathlib.Core.Path.{◌≡◌}
use Prim.Native.Nat.{◌-◌}
use Rattle.checks.specs.Model.{lent}
use Rattle.steps.specs.States.{held}
use Rattle.rounds.specs.Clock.{pairs_of, state_bits}
use Rattle.rounds.proofs.RoundTurns.{AtRound}
use Rattle.clocks.proofs.settle_rounds.Given as goal

abbrev pub invariant-loop-rounds : goal.invariant-loop-rounds
invariant-loop-rounds l = (held l.mask l.value ≡ held l.smask l.svalue) × AtRound (lent l.width l.lock l.initial.mask l.initial.value l.words) (pairs_of l.states l.nexts) l.rounds (held l.smask l.svalue)

abbrev pub decreases-loop-rounds : goal.decreases-loop-rounds
decreases-loop-rounds l = state_bits (lent l.width l.lock l.initial.mask l.initial.value l.words) (pairs_of l.states l.nexts) - l.rounds
