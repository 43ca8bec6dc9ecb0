-- `pairs::check_each_pair` meets its contract. The invariant: the verdict on all pairs is that on the pairs from i on. Assumes nothing.
use mathlib.Core.Path.{sym, ap, ◌∙◌}
use mathlib.Core.List.{List}
use Prim.Native.Nat.{ℕ}
use native.Mathlib.Omega.{arith}
use lib.ListN.{length}
use Rattle.checks.specs.declared.table.Table.{Table as TableLent}
use Rattle.checks.specs.Check.{Check, placed}
use Rattle.checks.specs.Model.{in_table, verdict_model}
use Rattle.checks.proofs.VerdictParts.{exit, rest-start, rest_end, turn-stops, turn-goes-on}
use Rattle.rounds.specs.Settle.{pair_faults}
use Rattle.pairs.proofs.check_each_pair.Goals as goal

abbrev faults : TableLent → List ℕ → List ℕ → ℕ → List Check
faults t states nexts i = placed 0 (pair_faults (in_table t) states nexts i)

pub loop-i-init : goal.loop-i-init
loop-i-init c = (omega arith, rest-start (faults c.args.t c.args.states.now c.args.nexts.now) (length c.args.states.now))

pub check_pair-requires : goal.check_pair-requires
check_pair-requires c = (c.requires, c.loop-i-test.true)

pub returns-in_err-check_pair : goal.returns-in_err-check_pair
returns-in_err-check_pair c =
    ap verdict_model (exit _ _ c.from_residual.ensures.1)
    ∙ sym (c.loop-i.invariant.1 ∙ turn-stops (faults c.args.t c.args.states.now c.args.nexts.now) (length c.args.states.now) c.loop-i.i c.loop-i-test.true c.check_pair.result c.check_pair.ensures _ c.in_err-check_pair.was)

pub loop-i-preserved : goal.loop-i-preserved
loop-i-preserved c =
    (omega arith, c.loop-i.invariant.1 ∙ turn-goes-on (faults c.args.t c.args.states.now c.args.nexts.now) (length c.args.states.now) c.loop-i.i c.loop-i-test.true c.check_pair.result c.check_pair.ensures c.in_ok-check_pair.was)

pub returns : goal.returns
returns c =
    sym (c.loop-i.invariant.1 ∙ rest_end (faults c.args.t c.args.states.now c.args.nexts.now) (length c.args.states.now) c.loop-i.i c.loop-i-test.false)
