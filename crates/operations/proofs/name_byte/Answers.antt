-- `operations::name_byte` meets its contract: the table computes to the names. Assumes nothing.
use native.Mathlib.Omega.{arith}
use Rattle.operations.specs.Kinds.{kinds, kind_count}
use Rattle.operations.proofs.Lookup.{kinds-few, kind-below}
use Rattle.operations.proofs.Spelling.{name-byte-is, name-short}
use Rattle.operations.proofs.name_byte.Goals as goal

pub overflow_mul-result : goal.overflow_mul-result
overflow_mul-result c = omega (arith, kinds-few, kind-below c.args.kind c.requires.0, name-short c.args.kind c.requires.0)

pub overflow_add-result : goal.overflow_add-result
overflow_add-result c = omega (arith, kinds-few, kind-below c.args.kind c.requires.0, name-short c.args.kind c.requires.0)

pub bounds-kind : goal.bounds-kind
unfolding kind_count
bounds-kind c = omega (arith, kind-below c.args.kind c.requires.0, name-short c.args.kind c.requires.0)

pub returns : goal.returns
unfolding kinds
returns c = name-byte-is c.args.kind c.requires.0 c.args.i c.requires.1
