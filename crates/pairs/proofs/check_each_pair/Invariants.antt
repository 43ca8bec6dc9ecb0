-- `pairs::check_each_pair` meets its contract. The invariant: the verdict on all pairs is that on the pairs from i on. Assumes nothing.
use mathlib.Core.Path.{◌≡◌}
use mathlib.Core.List.{List}
use Prim.Native.Nat.{ℕ, ◌≤◌}
use lib.ListN.{length}
use Rattle.checks.specs.declared.table.Table.{Table as TableLent}
use Rattle.checks.specs.Check.{Check, placed}
use Rattle.checks.specs.Model.{in_table, judged}
use Rattle.checks.proofs.VerdictParts.{rest}
use Rattle.rounds.specs.Settle.{pair_faults, each_pair_checks}
use Rattle.pairs.proofs.check_each_pair.Given as goal

abbrev faults : TableLent → List ℕ → List ℕ → ℕ → List Check
faults t states nexts i = placed 0 (pair_faults (in_table t) states nexts i)

abbrev pub invariant-loop-i : goal.invariant-loop-i
invariant-loop-i l = (l.i ≤ length l.states)
    × (judged (each_pair_checks (in_table l.t) l.states l.nexts) ≡ rest (faults l.t l.states l.nexts) (length l.states) l.i)
