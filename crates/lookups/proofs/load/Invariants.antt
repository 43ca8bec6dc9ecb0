-- `load` meets its contract. The invariant: the vector is the join of the cells before i that the address may name. Assumes nothing.
use mathlib.Core.Path.{◌≡◌}
use Prim.Native.Nat.{suc, ◌-◌, ◌≤◌, ◌<◌}
use Rattle.vectors.specs.Row.{row_of}
use Rattle.lookups.specs.Lookup.{join_named, cell_rows}
use Rattle.lookups.proofs.load.Given as goal

abbrev pub invariant-loop-i : goal.invariant-loop-i
invariant-loop-i l = (l.x < l.i) × (l.i ≤ l.end) × (row_of l.w l.joined ≡ join_named l.w (row_of l.wa l.fn.a) (cell_rows l.w l.mask l.value) (l.i - suc l.fn.a.value))
