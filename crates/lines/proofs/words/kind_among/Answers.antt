-- `lines::words::kind_among`: what the kinds from k on say of the name is what all of them say. Assumes nothing.
use mathlib.Core.Path.{refl, sym, ◌∙◌}
use native.Mathlib.Omega.{arith}
use Rattle.operations.proofs.Lookup.{kinds-few, below-kind}
use Rattle.lines.proofs.KindNames.{kind-here, kind-later, kind-none}
use Rattle.lines.proofs.words.kind_among.Goals as goal

pub loop-k-init : goal.loop-k-init
loop-k-init c = (omega arith, refl)

pub is_name-requires : goal.is_name-requires
is_name-requires c = below-kind _ (omega arith)

pub returns-then-is_name : goal.returns-then-is_name
returns-then-is_name c =
    sym (kind-here c.args.f.now c.args.n c.loop-k.k c.requires (omega arith) c.is_name.result c.is_name.ensures c.if-is_name.true) ∙ c.loop-k.invariant.1

pub loop-k-preserved : goal.loop-k-preserved
loop-k-preserved c =
    (omega arith, sym (kind-later c.args.f.now c.args.n c.loop-k.k c.requires (omega arith) c.is_name.result c.is_name.ensures c.if-is_name.false) ∙ c.loop-k.invariant.1)

pub returns : goal.returns
returns c =
    sym (kind-none c.args.f.now c.args.n c.loop-k.k c.requires (omega arith)) ∙ c.loop-k.invariant.1

pub overflow_cast-k : goal.overflow_cast-k
overflow_cast-k c = omega (arith, kinds-few)
