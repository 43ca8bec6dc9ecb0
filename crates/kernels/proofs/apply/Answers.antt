-- `kernels::apply` meets its contract: in each arm what the kernel asks for, then what it gives, under the names of the dispatch. Assumes nothing.
use mathlib.Core.Path.{◌≡◌, ap, subst, ◌∙◌}
use mathlib.Core.Bool.{Bool, not}
use mathlib.Core.Logic.{inl, inr}
use Prim.Native.Nat.{ℕ, ◌≤◌}
use lib.Dec.{T}
use Rattle.bits.specs.Limits.{width_limit}
use Rattle.vectors.specs.Row.{row}
use Rattle.vectors.specs.declared.Vector.{Vector}
use Rattle.operations.specs.declared.kind.Kind.{Kind as KindCase}
use Rattle.operations.specs.Kind.{is_base}
use Rattle.operations.specs.Kinds.{kind_of}
use Rattle.wide_products.specs.Apart.{Factor}
use Rattle.kernels.proofs.Dispatch.{Given, described, given}
use Rattle.kernels.proofs.KindDispatch as of
use Rattle.kernels.proofs.apply.Goals as goal

-- a result of width 1
at_width : (w : ℕ) (v : Vector) → w ≡ 1 → row w v.mask v.value ≡ row 1 v.mask v.value
at_width w v e = ap (λ (x : ℕ). row x v.mask v.value) e

-- what the kernel of the wide products asks for
wide-asks : {sa sb : Bool} (G : Given) → G.wt ≤ width_limit → of.WideArm G sa sb → (G.wt ≤ width_limit) × Factor G.wt G.ra × Factor G.wt G.rb
wide-asks G h A = (h, A.first, A.second)

pub copy-requires : goal.copy-requires
copy-requires c = (c.requires.1, (of.arm-copy (given _ _ _ _ c.requires.3) c.in-Copy.is).asks)

pub not-requires : goal.not-requires
not-requires c = (c.requires.1, (of.arm-not (given _ _ _ _ c.requires.3) c.in-Not.is).asks)

pub and-requires : goal.and-requires
and-requires c = (c.requires.1, (of.arm-and (given _ _ _ _ c.requires.3) c.in-And.is).asks)

pub or-requires : goal.or-requires
or-requires c = (c.requires.1, (of.arm-or (given _ _ _ _ c.requires.3) c.in-Or.is).asks)

pub xor-requires : goal.xor-requires
xor-requires c = (c.requires.1, (of.arm-xor (given _ _ _ _ c.requires.3) c.in-Xor.is).asks)

pub shl-requires : goal.shl-requires
shl-requires c = (c.requires.1, (of.arm-shl (given _ _ _ _ c.requires.3) c.in-Shl.is).asks)

pub lshr-requires : goal.lshr-requires
lshr-requires c = (c.requires.1, (of.arm-lshr (given _ _ _ _ c.requires.3) c.in-Lshr.is).asks)

pub ashr-requires : goal.ashr-requires
ashr-requires c = (c.requires.1, (of.arm-ashr (given _ _ _ _ c.requires.3) c.in-Ashr.is).asks)

pub rotl-requires : goal.rotl-requires
rotl-requires c = (c.requires.1, (of.arm-rotl (given _ _ _ _ c.requires.3) c.in-Rotl.is).asks)

pub extract-requires : goal.extract-requires
extract-requires c = (c.requires.2, (of.arm-extract (given _ _ _ _ c.requires.3) c.in-Extract.is).asks)

pub concat-requires : goal.concat-requires
concat-requires c = (c.requires.1, (of.arm-concat (given _ _ _ _ c.requires.3) c.in-Concat.is).asks)

pub zext-requires : goal.zext-requires
zext-requires c = (c.requires.1, (of.arm_zext (given _ _ _ _ c.requires.3) c.in-Zext.is).asks)

pub sext-requires : goal.sext-requires
sext-requires c = (c.requires.1, (of.arm_sext (given _ _ _ _ c.requires.3) c.in-Sext.is).asks)

pub add-requires : goal.add-requires
add-requires c = (c.requires.1, (of.arm_add (given _ _ _ _ c.requires.3) c.in-Add.is).asks)

pub sub-requires : goal.sub-requires
sub-requires c = (c.requires.1, (of.arm-sub (given _ _ _ _ c.requires.3) c.in-Sub.is).asks)

pub neg-requires : goal.neg-requires
neg-requires c = (c.requires.1, (of.arm-neg (given _ _ _ _ c.requires.3) c.in-Neg.is).asks)

pub mul-requires : goal.mul-requires
mul-requires c = (c.requires.1, (of.arm-mul (given _ _ _ _ c.requires.3) c.in-Mul.is).asks)

pub eq-requires : goal.eq-requires
eq-requires c = (c.requires.2, (of.arm-eq (given _ _ _ _ c.requires.3) c.in-Eq.is).1.asks)

pub ult-requires : goal.ult-requires
ult-requires c = (c.requires.2, (of.arm-ult (given _ _ _ _ c.requires.3) c.in-Ult.is).1.asks)

pub slt-requires : goal.slt-requires
slt-requires c = (c.requires.2, (of.arm-slt (given _ _ _ _ c.requires.3) c.in-Slt.is).1.asks)

pub ite-requires : goal.ite-requires
ite-requires c = (c.requires.1, (of.arm-ite (given _ _ _ _ c.requires.3) c.in-Ite.is).asks)

pub wide_product-requires : goal.wide_product-requires
wide_product-requires c = let g = given _ _ _ _ c.requires.3 in wide-asks g c.requires.1 (of.arm-umulw g c.in-Umulw.is)

pub wide_product-requires-in-Smulw : goal.wide_product-requires-in-Smulw
wide_product-requires-in-Smulw c = let g = given _ _ _ _ c.requires.3 in wide-asks g c.requires.1 (of.arm-smulw g c.in-Smulw.is)

pub wide_product-requires-in-Sumulw : goal.wide_product-requires-in-Sumulw
wide_product-requires-in-Sumulw c = let g = given _ _ _ _ c.requires.3 in wide-asks g c.requires.1 (of.arm-sumulw g c.in-Sumulw.is)

-- a kind with cells is none that the dispatch takes
pub unreachable-requires : goal.unreachable-requires
unfolding kind_of
unreachable-requires c =
    elim c.in-Load.is [
      | inl e ↦ subst (λ (k : KindCase). T (not (is_base (described k).use_c))) e c.requires.0
      | inr e ↦ subst (λ (k : KindCase). T (not (is_base (described k).use_c))) e c.requires.0
    ]

pub returns-in-Copy : goal.returns-in-Copy
returns-in-Copy c = c.copy.ensures ∙ (of.arm-copy (given _ _ _ _ c.requires.3) c.in-Copy.is).gives

pub returns-in-Not : goal.returns-in-Not
returns-in-Not c = c.not.ensures ∙ (of.arm-not (given _ _ _ _ c.requires.3) c.in-Not.is).gives

pub returns-in-And : goal.returns-in-And
returns-in-And c = c.and.ensures ∙ (of.arm-and (given _ _ _ _ c.requires.3) c.in-And.is).gives

pub returns-in-Or : goal.returns-in-Or
returns-in-Or c = c.or.ensures ∙ (of.arm-or (given _ _ _ _ c.requires.3) c.in-Or.is).gives

pub returns-in-Xor : goal.returns-in-Xor
returns-in-Xor c = c.xor.ensures ∙ (of.arm-xor (given _ _ _ _ c.requires.3) c.in-Xor.is).gives

pub returns-in-Shl : goal.returns-in-Shl
returns-in-Shl c = c.shl.ensures ∙ (of.arm-shl (given _ _ _ _ c.requires.3) c.in-Shl.is).gives

pub returns-in-Lshr : goal.returns-in-Lshr
returns-in-Lshr c = c.lshr.ensures ∙ (of.arm-lshr (given _ _ _ _ c.requires.3) c.in-Lshr.is).gives

pub returns-in-Ashr : goal.returns-in-Ashr
returns-in-Ashr c = c.ashr.ensures ∙ (of.arm-ashr (given _ _ _ _ c.requires.3) c.in-Ashr.is).gives

pub returns-in-Rotl : goal.returns-in-Rotl
returns-in-Rotl c = c.rotl.ensures ∙ (of.arm-rotl (given _ _ _ _ c.requires.3) c.in-Rotl.is).gives

pub returns-in-Extract : goal.returns-in-Extract
returns-in-Extract c = c.extract.ensures ∙ (of.arm-extract (given _ _ _ _ c.requires.3) c.in-Extract.is).gives

pub returns-in-Concat : goal.returns-in-Concat
returns-in-Concat c = c.concat.ensures ∙ (of.arm-concat (given _ _ _ _ c.requires.3) c.in-Concat.is).gives

pub returns-in-Zext : goal.returns-in-Zext
returns-in-Zext c = c.zext.ensures ∙ (of.arm_zext (given _ _ _ _ c.requires.3) c.in-Zext.is).gives

pub returns-in-Sext : goal.returns-in-Sext
returns-in-Sext c = c.sext.ensures ∙ (of.arm_sext (given _ _ _ _ c.requires.3) c.in-Sext.is).gives

pub returns-in-Add : goal.returns-in-Add
returns-in-Add c = c.add.ensures ∙ (of.arm_add (given _ _ _ _ c.requires.3) c.in-Add.is).gives

pub returns-in-Sub : goal.returns-in-Sub
returns-in-Sub c = c.sub.ensures ∙ (of.arm-sub (given _ _ _ _ c.requires.3) c.in-Sub.is).gives

pub returns-in-Neg : goal.returns-in-Neg
returns-in-Neg c = c.neg.ensures ∙ (of.arm-neg (given _ _ _ _ c.requires.3) c.in-Neg.is).gives

pub returns-in-Mul : goal.returns-in-Mul
returns-in-Mul c = c.mul.ensures ∙ (of.arm-mul (given _ _ _ _ c.requires.3) c.in-Mul.is).gives

pub returns-in-Eq : goal.returns-in-Eq
returns-in-Eq c = let (w, A) = of.arm-eq (given _ _ _ _ c.requires.3) c.in-Eq.is in at_width c.args.wt c.eq.result w ∙ c.eq.ensures ∙ A.gives

pub returns-in-Ult : goal.returns-in-Ult
returns-in-Ult c = let (w, A) = of.arm-ult (given _ _ _ _ c.requires.3) c.in-Ult.is in at_width c.args.wt c.ult.result w ∙ c.ult.ensures ∙ A.gives

pub returns-in-Slt : goal.returns-in-Slt
returns-in-Slt c = let (w, A) = of.arm-slt (given _ _ _ _ c.requires.3) c.in-Slt.is in at_width c.args.wt c.slt.result w ∙ c.slt.ensures ∙ A.gives

pub returns-in-Ite : goal.returns-in-Ite
returns-in-Ite c = c.ite.ensures ∙ (of.arm-ite (given _ _ _ _ c.requires.3) c.in-Ite.is).gives

pub returns-in-Umulw : goal.returns-in-Umulw
returns-in-Umulw c = c.wide_product.ensures ∙ (of.arm-umulw (given _ _ _ _ c.requires.3) c.in-Umulw.is).gives

pub returns-in-Smulw : goal.returns-in-Smulw
returns-in-Smulw c = c.wide_product-in-Smulw.ensures ∙ (of.arm-smulw (given _ _ _ _ c.requires.3) c.in-Smulw.is).gives

pub returns-in-Sumulw : goal.returns-in-Sumulw
returns-in-Sumulw c = c.wide_product-in-Sumulw.ensures ∙ (of.arm-sumulw (given _ _ _ _ c.requires.3) c.in-Sumulw.is).gives
