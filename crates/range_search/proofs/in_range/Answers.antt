-- `range_search::in_range` meets its contract: the smallest number, the largest, and the vector between them. Assumes nothing.
use mathlib.Core.Path.{ap, ◌∙◌}
use Prim.Native.Nat.{◌+◌, ◌-◌}
use native.Mathlib.Omega.{arith}
use Rattle.vectors.specs.Row.{row}
use Rattle.vectors.specs.declared.Vector.{Vector}
use Rattle.vectors.proofs.Rows.{top}
use Rattle.std.specs.Prelude.{Some}
use Rattle.range_search.proofs.Finding.{none_from, value_below, found}
use Rattle.range_search.proofs.in_range.Goals as goal

pub returns-then-top-low : goal.returns-then-top-low
returns-then-top-low c = none_from (row c.args.w c.args.m c.args.v) c.requires.1 c.args.low c.args.high c.if-top-low.true

pub overflow_sub-high : goal.overflow_sub-high
overflow_sub-high c =
    value_below (row c.args.w c.args.m c.args.v) c.requires.1 c.args.low c.args.high c.greatest_part.result c.if-top-low.false c.greatest_part.ensures (omega arith)

pub returns : goal.returns
returns c =
    let smallest = c.greatest_part in
    let largest = c.greatest_part-2 in
    ap (λ (x : Vector). Some (record { mask = x.mask; value = x.value; smallest = top (row c.args.w c.args.m c.args.v) - smallest.result; largest = c.args.v + largest.result })) c.span-best.ensures
    ∙ found (row c.args.w c.args.m c.args.v) c.requires.1 c.args.low c.args.high smallest.result c.if-top-low.false smallest.ensures (omega arith) largest.result largest.ensures c.requires.0
