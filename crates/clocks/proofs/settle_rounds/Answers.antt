-- `clocks::settle_rounds` meets its contract. The invariant: the rows are those from which the next round starts, and no round before it was the last. Assumes nothing.
use mathlib.Core.Path.{◌≡◌, sym, ap, subst, ◌∙◌}
use Prim.Native.Nat.{◌+◌}
use native.Mathlib.Omega.{arith}
use Rattle.checks.specs.Table.{State, Table, record_count}
use Rattle.checks.specs.Model.{lent}
use Rattle.steps.specs.Step.{after}
use Rattle.steps.specs.States.{held}
use Rattle.steps.proofs.Copies.{copyable}
use Rattle.tables.specs.Run.{program_of}
use Rattle.tables.specs.Encoding.{StretchReady}
use Rattle.tables.proofs.Demand3.{start_fits}
use Rattle.rounds.specs.Clock.{pairs_of}
use Rattle.rounds.proofs.RoundTurns as turns
use Rattle.rounds.proofs.RoundTurns.{AtRound}
use Rattle.clocks.proofs.settle_rounds.Goals as goal

-- all words stepped through from the round's start rows
ran : (t : Table) {left x s : State} → left ≡ after (program_of t) 0 (record_count t) x → x ≡ s → left ≡ after (program_of t) 0 (record_count t) s
ran t e i = e ∙ ap (after (program_of t) 0 (record_count t)) i

pub copy_rows-requires : goal.copy_rows-requires
copy_rows-requires c =
    copyable c.args.width.now _ _ _ (start_fits (lent c.args.width.now c.args.lock.now c.args.mask.now c.args.value.now c.args.words.now) c.requires.0.accepted.table) c.requires.1

pub loop-rounds-init : goal.loop-rounds-init
loop-rounds-init c =
    (sym c.copy_rows.ensures, turns.round-start (lent c.args.width.now c.args.lock.now c.args.mask.now c.args.value.now c.args.words.now) (pairs_of c.args.states.now c.args.nexts.now) _ c.copy_rows.ensures)

pub step_all-requires : goal.step_all-requires
step_all-requires c =
    subst (λ (x : State). StretchReady c.args.width.now x c.args.words.now) (sym c.loop-rounds.invariant.0)
    (turns.step-ready (lent c.args.width.now c.args.lock.now c.args.mask.now c.args.value.now c.args.words.now) c.args.states.now c.args.nexts.now c.requires.0 c.loop-rounds.rounds (held c.loop-rounds.smask c.loop-rounds.svalue) c.loop-rounds.invariant.1)

pub overflow_add-rounds : goal.overflow_add-rounds
overflow_add-rounds c =
    let few = turns.rounds-few (lent c.args.width.now c.args.lock.now c.args.mask.now c.args.value.now c.args.words.now) c.args.states.now c.args.nexts.now c.requires.0 c.loop-rounds.rounds (held c.loop-rounds.smask c.loop-rounds.svalue) c.loop-rounds.invariant.1 in
    omega arith

pub rows_still-requires : goal.rows_still-requires
rows_still-requires c =
    let t = lent c.args.width.now c.args.lock.now c.args.mask.now c.args.value.now c.args.words.now in
    turns.widen-ready t c.args.states.now c.args.nexts.now c.requires.0 c.loop-rounds.rounds (held c.loop-rounds.smask c.loop-rounds.svalue) c.loop-rounds.invariant.1 (held c.step_all.new.mask c.step_all.new.value) (ran t c.step_all.ensures c.loop-rounds.invariant.0)

pub returns-then-rows_still : goal.returns-then-rows_still
returns-then-rows_still c =
    let t = lent c.args.width.now c.args.lock.now c.args.mask.now c.args.value.now c.args.words.now in
    turns.round-last t c.args.states.now c.args.nexts.now c.requires.0 c.loop-rounds.rounds (held c.loop-rounds.smask c.loop-rounds.svalue) c.loop-rounds.invariant.1 (held c.step_all.new.mask c.step_all.new.value) (ran t c.step_all.ensures c.loop-rounds.invariant.0)
    c.rows_still.result (c.rows_still.ensures c.args.width.now) c.if-rows_still.true

pub widen_rows-requires : goal.widen_rows-requires
widen_rows-requires c =
    let t = lent c.args.width.now c.args.lock.now c.args.mask.now c.args.value.now c.args.words.now in
    turns.widen-ready t c.args.states.now c.args.nexts.now c.requires.0 c.loop-rounds.rounds (held c.loop-rounds.smask c.loop-rounds.svalue) c.loop-rounds.invariant.1 (held c.step_all.new.mask c.step_all.new.value) (ran t c.step_all.ensures c.loop-rounds.invariant.0)

pub copy_rows-requires-in-loop-rounds : goal.copy_rows-requires-in-loop-rounds
copy_rows-requires-in-loop-rounds c =
    let t = lent c.args.width.now c.args.lock.now c.args.mask.now c.args.value.now c.args.words.now in
    let F = (turns.ran-fits t c.args.states.now c.args.nexts.now c.requires.0 c.loop-rounds.rounds (held c.loop-rounds.smask c.loop-rounds.svalue) c.loop-rounds.invariant.1 (held c.step_all.new.mask c.step_all.new.value) (ran t c.step_all.ensures c.loop-rounds.invariant.0)) in
    copyable c.args.width.now (held c.widen_rows.new.smask c.widen_rows.new.svalue) _ _
    (turns.start_fits t c.args.states.now c.args.nexts.now c.requires.0 (c.loop-rounds.rounds + 1) (held c.widen_rows.new.smask c.widen_rows.new.svalue) (turns.round-next t c.args.states.now c.args.nexts.now c.requires.0 c.loop-rounds.rounds (held c.loop-rounds.smask c.loop-rounds.svalue) c.loop-rounds.invariant.1 (held c.step_all.new.mask c.step_all.new.value) (ran t c.step_all.ensures c.loop-rounds.invariant.0)
    c.rows_still.result (c.rows_still.ensures c.args.width.now) c.if-rows_still.false (held c.widen_rows.new.smask c.widen_rows.new.svalue) (c.widen_rows.ensures c.args.width.now)))
    (record { masks_length = F.masks_length; values_length = F.values_length })

pub loop-rounds-smaller : goal.loop-rounds-smaller
loop-rounds-smaller c =
    let t = lent c.args.width.now c.args.lock.now c.args.mask.now c.args.value.now c.args.words.now in
    let few = turns.rounds-few t c.args.states.now c.args.nexts.now c.requires.0 (c.loop-rounds.rounds + 1) (held c.widen_rows.new.smask c.widen_rows.new.svalue) (turns.round-next t c.args.states.now c.args.nexts.now c.requires.0 c.loop-rounds.rounds (held c.loop-rounds.smask c.loop-rounds.svalue) c.loop-rounds.invariant.1 (held c.step_all.new.mask c.step_all.new.value) (ran t c.step_all.ensures c.loop-rounds.invariant.0)
    c.rows_still.result (c.rows_still.ensures c.args.width.now) c.if-rows_still.false (held c.widen_rows.new.smask c.widen_rows.new.svalue) (c.widen_rows.ensures c.args.width.now)) in
    omega arith

pub loop-rounds-preserved : goal.loop-rounds-preserved
loop-rounds-preserved c =
    let t = lent c.args.width.now c.args.lock.now c.args.mask.now c.args.value.now c.args.words.now in (
      c.copy_rows-in-loop-rounds.ensures,
      (turns.round-next t c.args.states.now c.args.nexts.now c.requires.0 c.loop-rounds.rounds (held c.loop-rounds.smask c.loop-rounds.svalue) c.loop-rounds.invariant.1 (held c.step_all.new.mask c.step_all.new.value) (ran t c.step_all.ensures c.loop-rounds.invariant.0)
          c.rows_still.result (c.rows_still.ensures c.args.width.now) c.if-rows_still.false (held c.widen_rows.new.smask c.widen_rows.new.svalue) (c.widen_rows.ensures c.args.width.now)),
    )
