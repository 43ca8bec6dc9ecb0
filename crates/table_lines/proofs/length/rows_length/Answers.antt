-- `table_lines::length::rows_length`: the bytes counted, and those of the row lines still to come, make up the whole. Assumes nothing.
use mathlib.Core.Path.{refl, ap}
use mathlib.Core.List.{List, []}
use Prim.Native.Nat.{ℕ}
use native.Mathlib.Omega.{arith}
use lib.ListN.{length, get_or}
use Rattle.checks.specs.Table.{Table}
use Rattle.checks.specs.Model.{lent}
use Rattle.table_lines.proofs.PrintLines.{rows-begin, row-left, rows_end}
use Rattle.table_lines.proofs.length.rows_length.Goals as goal

pub loop-i-init : goal.loop-i-init
loop-i-init c = let a = c.args in (refl, omega arith, λ ms vs. omega (arith, ap length (rows-begin (lent a.width.now a.lock.now ms vs []))))

pub overflow_add-total : goal.overflow_add-total
overflow_add-total c =
    let left = row-left (lent c.args.width.now c.args.lock.now [] [] []) c.loop-i.i (omega arith) in
    omega (arith, left, c.loop-i.invariant.2 [] [], c.row_length-total.ensures (get_or [] c.loop-i.i 0) (get_or [] c.loop-i.i 0), c.requires.1 [] [])

pub loop-i-preserved : goal.loop-i-preserved
loop-i-preserved c =
    let i = c.loop-i.i in
    let lines : List ℕ → List ℕ → Table = λ ms vs. lent c.args.width.now c.args.lock.now ms vs [] in
    (refl, omega arith, λ ms vs. omega (arith, row-left (lines ms vs) i (omega arith), c.loop-i.invariant.2 ms vs, c.row_length-total.ensures (get_or ms i 0) (get_or vs i 0)))

pub returns : goal.returns
returns c ms vs =
    let a = c.args in
    omega (arith, c.loop-i.invariant.2 ms vs, ap length (rows_end (lent a.width.now a.lock.now ms vs []) c.loop-i.i (omega arith)))

pub bounds-lock-i : goal.bounds-lock-i
bounds-lock-i c = omega (arith, c.requires.0)

pub row_length-total-requires : goal.row_length-total-requires
row_length-total-requires c = tt
