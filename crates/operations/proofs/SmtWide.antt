-- The numbers of SMT-LIB's bvmul of vectors that are extended to one width, over both signs. Assumes nothing.
--   widened_is   the number of an extended vector;  wide_is   of the product
use mathlib.Core.Path.{◌≡◌, sym, subst}
use mathlib.Core.Bool.{Bool, true, false}
use mathlib.Core.List.{[], ◌∷◌}
use Prim.Native.Nat.{ℕ, ◌+◌, ◌-◌, ◌≤◌}
use native.Mathlib.Omega.{arith}
use lib.Dec.{T, eqb, eqb→eq}
use Rattle.operations.specs.Moves.{op_sext}
use Rattle.operations.specs.Wide.{counted_as, wide_number}
use Rattle.operations.specs.Bitvector.{Bitvector}
use Rattle.operations.specs.SmtLib.{bvmul, zero_extend, sign_extend}
use Rattle.operations.specs.Terms.{widened}
use Rattle.operations.proofs.SmtNat.{Is, Is-below, Is-number}
use Rattle.operations.proofs.SmtMoves.{zext-to, sext-to}
use Rattle.operations.proofs.SmtSums.{mul_is}
use Rattle.operations.proofs.WideNumbers.{counted-unsigned, counted-signed}

widened_is : (signed : Bool) {wt w a : ℕ} {s : Bitvector} → 1 ≤ w → w ≤ wt → Is w a s → Is wt (counted_as signed wt w a) (widened signed wt s)
unfolding op_sext
widened_is false {wt} {w} {a} {s} l m h =
    Is-number (sym (counted-unsigned wt w a)) (subst (λ (k : ℕ). Is wt a (zero_extend (wt - k) s)) (sym h.width_is) (zext-to wt m h))
widened_is true {wt} {w} {a} {s} l m h =
    Is-number (sym (counted-signed wt w a l m (Is-below h)))
    (subst (λ (k : ℕ). Is wt (op_sext.plain wt (w ∷ []) 0 (a ∷ [])) (sign_extend (wt - k) s)) (sym h.width_is) (sext-to wt l m h))

pub wide_is : (sa sb : Bool) {wt w v a b : ℕ} {s t : Bitvector} → T (eqb wt (w + v)) → 1 ≤ w → 1 ≤ v → Is w a s → Is v b t
    → Is wt (wide_number sa sb wt (w ∷ v ∷ []) (a ∷ b ∷ [])) (bvmul (widened sa wt s) (widened sb wt t))
wide_is sa sb {wt} {w} {v} f l m h g =
    let e : wt ≡ w + v = eqb→eq wt (w + v) f in
    mul_is (widened_is sa l (omega arith) h) (widened_is sb m (omega arith) g)
