-- `lengths::record_length`: the bytes that every record line has, its name's and its numbers' digits. Assumes nothing.
use native.Mathlib.Omega.{arith}
use Rattle.operations.specs.Record.{words_of}
use Rattle.grammar.proofs.Decimals.{length_most}
use Rattle.grammar.proofs.Sizes.{name-most, record-bytes}
use Rattle.lengths.proofs.record_length.Goals as goal

pub returns : goal.returns
returns c = let r = c.args.r in omega (arith, record-bytes (words_of r) (omega arith))

-- a sum of all six is far below the greatest usize
pub overflow_add-result : goal.overflow_add-result
overflow_add-result c =
    let r = c.args.r in
    omega (arith, name-most r.kind c.requires, length_most r.t, length_most r.a, length_most r.b, length_most r.p, length_most r.c)

pub overflow_add-result-2 : goal.overflow_add-result-2
overflow_add-result-2 c =
    let r = c.args.r in
    omega (arith, name-most r.kind c.requires, length_most r.t, length_most r.a, length_most r.b, length_most r.p, length_most r.c)

pub overflow_add-result-3 : goal.overflow_add-result-3
overflow_add-result-3 c =
    let r = c.args.r in
    omega (arith, name-most r.kind c.requires, length_most r.t, length_most r.a, length_most r.b, length_most r.p, length_most r.c)

pub overflow_add-result-4 : goal.overflow_add-result-4
overflow_add-result-4 c =
    let r = c.args.r in
    omega (arith, name-most r.kind c.requires, length_most r.t, length_most r.a, length_most r.b, length_most r.p, length_most r.c)

pub overflow_add-result-5 : goal.overflow_add-result-5
overflow_add-result-5 c =
    let r = c.args.r in
    omega (arith, name-most r.kind c.requires, length_most r.t, length_most r.a, length_most r.b, length_most r.p, length_most r.c)

pub overflow_add-result-6 : goal.overflow_add-result-6
overflow_add-result-6 c =
    let r = c.args.r in
    omega (arith, name-most r.kind c.requires, length_most r.t, length_most r.a, length_most r.b, length_most r.p, length_most r.c)
