-- `lines::words::is_name`: the bytes passed are equal. Assumes nothing.
use mathlib.Core.Path.{refl, sym, ◌∙◌}
use native.Mathlib.Omega.{arith}
use borrow.Author.Count.{below_more}
use Rattle.operations.specs.Kinds.{kind_of}
use Rattle.lines.proofs.Compare.{other_length, other_byte, all_same}
use Rattle.lines.proofs.words.is_name.Goals as goal

pub name_len-requires : goal.name_len-requires
name_len-requires c = c.requires

pub returns-then-name_len-len : goal.returns-then-name_len-len
returns-then-name_len-len c =
    other_length c.args.f.now (kind_of c.args.k).name (λ e. c.if-name_len-len.true (c.name_len.ensures ∙ e))

pub loop-i-init : goal.loop-i-init
loop-i-init c = (refl, sym c.name_len.ensures ∙ c.if-name_len-len.false, omega arith, λ k h. absurd (omega arith))

pub name_byte-requires : goal.name_byte-requires
name_byte-requires c = (c.requires, omega arith)

pub returns-then-f-i : goal.returns-then-f-i
returns-then-f-i c =
    other_byte c.args.f.now (kind_of c.args.k).name c.loop-i.i (λ e. c.if-f-i.true (e ∙ sym c.name_byte.ensures))

pub loop-i-preserved : goal.loop-i-preserved
loop-i-preserved c =
    (refl, c.loop-i.invariant.1, omega arith, below_more _ _ c.loop-i.invariant.3 (c.if-f-i.false ∙ c.name_byte.ensures))

pub returns : goal.returns
returns c =
    all_same c.args.f.now (kind_of c.args.k).name (omega arith) (λ k h. c.loop-i.invariant.3 k (omega arith))
