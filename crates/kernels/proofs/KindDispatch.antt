-- The arm of each kind: a kernel's operands under the names of the dispatch. Assumes nothing.
use mathlib.Core.Path.{◌≡◌, refl}
use mathlib.Core.Bool.{Bool, true, false, ◌&&◌}
use mathlib.Core.List.{List, [], ◌∷◌}
use Prim.Native.Nat.{ℕ}
use lib.Dec.{eqb}
use Rattle.bits.proofs.Bools.{T-left}
use Rattle.vectors.specs.Row.{row}
use Rattle.vectors.specs.Best.{best}
use Rattle.operations.specs.declared.kind.Kind.TheVariants.{Copy, Not, And, Or, Xor, Shl, Lshr, Ashr, Rotl, Extract, Concat, Zext, Sext, Add, Sub, Neg, Mul, Eq, Ult, Slt, Ite, Umulw, Smulw, Sumulw}
use Rattle.operations.specs.Kind.{bytes, chosen_widths}
use Rattle.operations.specs.Bitwise.{op_copy, op_not, op_and, op_or, op_xor}
use Rattle.operations.specs.Moves.{op_shl, op_lshr, op_ashr, op_rotl, op_extract, op_concat, op_zext, op_sext}
use Rattle.operations.specs.Arithmetic.{op_add, op_sub, op_neg, op_mul, op_eq, op_ult, op_slt, op_ite}
use Rattle.operations.specs.Wide.{wide_number, wide_kind, op_umulw, op_smulw, op_sumulw}
use Rattle.operations.specs.Kinds.{kind_of}
use Rattle.operations.specs.Record.{operands}
use Rattle.operations.specs.Result.{result_of}
use Rattle.wide_products.specs.Apart.{Factor}
use Rattle.wide_products.proofs.Kernel.{wide-factors}
use Rattle.kernels.proofs.Dispatch.{described, kind_is, Given, Arm, SameRow, SameRows, ComparedRows, arm, none, rule, both-same, one-row, two-rows, compared-rows}

pub arm-copy : (g : Given) → g.kind ≡ Copy → SameRow g op_copy 0
unfolding kind_of
arm-copy g e = arm g op_copy (kind_is e) refl (none g op_copy (kind_is e) refl) (one-row g op_copy (kind_is e) refl refl)

pub arm-not : (g : Given) → g.kind ≡ Not → SameRow g op_not 0
unfolding kind_of
arm-not g e = arm g op_not (kind_is e) refl (none g op_not (kind_is e) refl) (one-row g op_not (kind_is e) refl refl)

pub arm-and : (g : Given) → g.kind ≡ And → SameRows g op_and
unfolding kind_of
arm-and g e = two-rows g op_and (kind_is e) refl refl refl

pub arm-or : (g : Given) → g.kind ≡ Or → SameRows g op_or
unfolding kind_of
arm-or g e = two-rows g op_or (kind_is e) refl refl refl

pub arm-xor : (g : Given) → g.kind ≡ Xor → SameRows g op_xor
unfolding kind_of
arm-xor g e = two-rows g op_xor (kind_is e) refl refl refl

pub arm-shl : (g : Given) → g.kind ≡ Shl → SameRow g op_shl g.p
unfolding kind_of
arm-shl g e = arm g op_shl (kind_is e) refl refl (one-row g op_shl (kind_is e) refl refl)

pub arm-lshr : (g : Given) → g.kind ≡ Lshr → SameRow g op_lshr g.p
unfolding kind_of
arm-lshr g e = arm g op_lshr (kind_is e) refl refl (one-row g op_lshr (kind_is e) refl refl)

pub arm-ashr : (g : Given) → g.kind ≡ Ashr → SameRow g op_ashr g.p
unfolding kind_of
arm-ashr g e = arm g op_ashr (kind_is e) refl refl (one-row g op_ashr (kind_is e) refl refl)

pub arm-rotl : (g : Given) → g.kind ≡ Rotl → SameRow g op_rotl g.p
unfolding kind_of
arm-rotl g e = arm g op_rotl (kind_is e) refl refl (one-row g op_rotl (kind_is e) refl refl)

pub arm-extract : (g : Given) → g.kind ≡ Extract → Arm g op_extract g.wt g.p (g.ra ∷ [])
unfolding kind_of
arm-extract g e = arm g op_extract (kind_is e) refl refl refl

pub arm-concat : (g : Given) → g.kind ≡ Concat → Arm g op_concat g.wt 0 (g.ra ∷ g.rb ∷ [])
unfolding kind_of
arm-concat g e = arm g op_concat (kind_is e) refl (none g op_concat (kind_is e) refl) refl

pub arm_zext : (g : Given) → g.kind ≡ Zext → Arm g op_zext g.wt 0 (g.ra ∷ [])
unfolding kind_of
arm_zext g e = arm g op_zext (kind_is e) refl (none g op_zext (kind_is e) refl) refl

pub arm_sext : (g : Given) → g.kind ≡ Sext → Arm g op_sext g.wt 0 (g.ra ∷ [])
unfolding kind_of
arm_sext g e = arm g op_sext (kind_is e) refl (none g op_sext (kind_is e) refl) refl

pub arm_add : (g : Given) → g.kind ≡ Add → SameRows g op_add
unfolding kind_of
arm_add g e = two-rows g op_add (kind_is e) refl refl refl

pub arm-sub : (g : Given) → g.kind ≡ Sub → SameRows g op_sub
unfolding kind_of
arm-sub g e = two-rows g op_sub (kind_is e) refl refl refl

pub arm-neg : (g : Given) → g.kind ≡ Neg → SameRow g op_neg 0
unfolding kind_of
arm-neg g e = arm g op_neg (kind_is e) refl (none g op_neg (kind_is e) refl) (one-row g op_neg (kind_is e) refl refl)

pub arm-mul : (g : Given) → g.kind ≡ Mul → SameRows g op_mul
unfolding kind_of
arm-mul g e = two-rows g op_mul (kind_is e) refl refl refl

pub arm-eq : (g : Given) → g.kind ≡ Eq → ComparedRows g op_eq
unfolding kind_of
arm-eq g e = compared-rows g op_eq (kind_is e) refl refl refl

pub arm-ult : (g : Given) → g.kind ≡ Ult → ComparedRows g op_ult
unfolding kind_of
arm-ult g e = compared-rows g op_ult (kind_is e) refl refl refl

pub arm-slt : (g : Given) → g.kind ≡ Slt → ComparedRows g op_slt
unfolding kind_of
arm-slt g e = compared-rows g op_slt (kind_is e) refl refl refl

pub arm-ite : (g : Given) → g.kind ≡ Ite → Arm g op_ite g.wt 0 (row g.wt g.ra.mask g.ra.value ∷ row g.wt g.rb.mask g.rb.value ∷ g.rc ∷ [])
unfolding kind_of
arm-ite g e =
    let t = rule g op_ite (kind_is e) chosen_widths (g.ra ∷ g.rb ∷ g.rc ∷ []) refl refl in
    let (a, b) = both-same g op_ite (kind_is e) (T-left (eqb g.wt g.ra.width && eqb g.wt g.rb.width) (eqb g.rc.width 1) t) in
    arm g op_ite (kind_is e) refl (none g op_ite (kind_is e) refl) (λ ι. row (a ι) g.ra.mask g.ra.value ∷ row (b ι) g.rb.mask g.rb.value ∷ g.rc ∷ [])

-- ---- the wide products: one kernel over two signs

pub record WideArm (g : Given) (sa sb : Bool) : Type 0 where
  pub first : Factor g.wt g.ra
  pub second : Factor g.wt g.rb
  pub gives : best g.wt (wide_number sa sb g.wt (g.ra.width ∷ g.rb.width ∷ [])) (g.ra ∷ g.rb ∷ [])
      ≡ result_of (described g.kind) g.wt g.p (operands (described g.kind) g.ra g.rb (g.rc ∷ []))

arm-wide : (n : ℕ) (name : List ℕ) (sa sb : Bool) (g : Given) → described g.kind ≡ wide_kind n name sa sb → WideArm g sa sb
unfolding result_of
arm-wide n name sa sb g e =
    let A = arm g (wide_kind n name sa sb) e refl (none g (wide_kind n name sa sb) e refl) refl in
    let (F, G) = wide-factors n name sa sb g.wt 0 g.ra g.rb A.asks in
    record { first = F; second = G; gives = A.gives }

pub arm-umulw : (g : Given) → g.kind ≡ Umulw → WideArm g false false
unfolding kind_of op_umulw
arm-umulw g e = arm-wide 21 (bytes "umulw") false false g (kind_is e)

pub arm-smulw : (g : Given) → g.kind ≡ Smulw → WideArm g true true
unfolding kind_of op_smulw
arm-smulw g e = arm-wide 22 (bytes "smulw") true true g (kind_is e)

pub arm-sumulw : (g : Given) → g.kind ≡ Sumulw → WideArm g true false
unfolding kind_of op_sumulw
arm-sumulw g e = arm-wide 23 (bytes "sumulw") true false g (kind_is e)
