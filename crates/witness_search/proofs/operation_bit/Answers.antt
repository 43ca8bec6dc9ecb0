-- `witness_search::operation_bit` meets its contract: each kind by its routine. Assumes nothing.
use mathlib.Core.Path.{refl, ap, ◌∙◌}
use native.Mathlib.Omega.{arith}
use Rattle.vectors.specs.Row.{Row}
use Rattle.vectors.specs.OutputBits.{output_bit}
use Rattle.operations.specs.Arithmetic.{op_add, op_sub}
use Rattle.operations.proofs.TwoRows.{two_ready}
use Rattle.witness_search.specs.Search.{rows_of}
use Rattle.witness_search.proofs.Operations.{is-add, is-sub, is_mul}
use Rattle.witness_search.proofs.operation_bit.Goals as goal

pub product_bit_unchecked-requires : goal.product_bit_unchecked-requires
product_bit_unchecked-requires c = record { width = c.args.w; formed = c.requires.formed; below = c.requires.below }

pub returns-in-Mul : goal.returns-in-Mul
returns-in-Mul c =
    let a = c.args in
    c.product_bit_unchecked.ensures a.w c.requires.below c.requires.formed.first c.requires.formed.second
    ∙ ap (λ (r : Row). output_bit r a.k) (is_mul a.kind a.w (rows_of a.w a.o) c.in-Mul.is)

pub add-requires : goal.add-requires
unfolding op_add
add-requires c =
    let o = c.args.o in
    (c.requires.formed.most, two_ready op_add refl refl refl c.args.w o.a.mask o.a.value o.b.mask o.b.value (omega (arith, c.requires.below)) c.requires.formed.first c.requires.formed.second)

pub bit_of-requires : goal.bit_of-requires
bit_of-requires c = omega (arith, c.requires.below, c.requires.formed.most)

pub returns-in-Add : goal.returns-in-Add
returns-in-Add c =
    let a = c.args in
    c.bit_of.ensures a.w ∙ ap (λ (r : Row). output_bit r a.k) (c.add.ensures ∙ is-add a.kind a.w (rows_of a.w a.o) c.in-Add.is)

pub sub-requires : goal.sub-requires
unfolding op_sub
sub-requires c =
    let o = c.args.o in
    (c.requires.formed.most, two_ready op_sub refl refl refl c.args.w o.a.mask o.a.value o.b.mask o.b.value (omega (arith, c.requires.below)) c.requires.formed.first c.requires.formed.second)

pub bit_of-requires-in-Sub : goal.bit_of-requires-in-Sub
bit_of-requires-in-Sub c = omega (arith, c.requires.below, c.requires.formed.most)

pub returns-in-Sub : goal.returns-in-Sub
returns-in-Sub c =
    let a = c.args in
    c.bit_of-in-Sub.ensures a.w
    ∙ ap (λ (r : Row). output_bit r a.k)
    (c.sub.ensures ∙ is-sub a.kind a.w (rows_of a.w a.o) c.in-Sub.is)
