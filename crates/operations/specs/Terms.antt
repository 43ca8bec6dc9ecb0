-- The SMT-LIB term of each kind, and what it is for a term to be a kind's meaning (demand 2, first sentence).
--   Term             a kind, a term over the target's width, the parameter and the operand vectors, and the parameters that it serves
--   always, fits_width   the parameters served: all; those below 2 to the power of the width
--   low s r, amount s p   r cut to the width of s; an amount of five bits more than s
--   widened signed wt s   s extended to wt bits: by sign_extend where it is signed, else by zero_extend
--   terms            one term for each kind but load and store, which SMT-LIB's bit vectors do not have, for every parameter that the checks let pass
--   narrow_terms      for the shifts the term whose amount has the operand's own width, where the amount fits it
--   left vs, right vs, condition vs   the first, second and third operand vector
--   vectors ws ns    the operand vectors, SMT-LIB's of the operands' widths and numbers
--   Served m ..      the operands and the parameter passed the checks, and the term serves them
--   Agrees m         whatever the widths, 1 and up, that the kind's rule allows, and whatever the operands, the plain number is the term's number
use Rattle.std.specs.Prelude.{◌≡◌, Bool, true, false, not, cond, List, [], ◌∷◌, ℕ, ◌+◌, ◌-◌, ◌^◌, ◌≤◌, T, ltb, length, get_or}
use Rattle.vectors.specs.Lists.{All}
use Rattle.operations.specs.Kind.{asks, Kind, first}
use Rattle.operations.specs.Bitwise.{op_copy, op_not, op_and, op_or, op_xor}
use Rattle.operations.specs.Moves.{op_shl, op_lshr, op_ashr, op_rotl, op_extract, op_concat, op_zext, op_sext}
use Rattle.operations.specs.Arithmetic.{op_add, op_sub, op_neg, op_mul, op_eq, op_ult, op_slt, op_ite}
use Rattle.operations.specs.Wide.{op_umulw, op_smulw, op_sumulw}
use Rattle.operations.specs.Faults.{misused}
use Rattle.operations.specs.Result.{Below, arity}
use Rattle.operations.specs.Bitvector.{Bitvector, nat, bv, extract, concat}
use Rattle.operations.specs.SmtLib.{bvnot, bvand, bvor, bvxor, bvneg, bvadd, bvsub, bvmul, bvshl, bvlshr, bvashr, zero_extend, sign_extend, rotate_left, bveq, bvult, bvslt, bit1, bvite}

-- serves: of the first operand's width and the parameter
pub record Term : Type 0 where
  pub kind : Kind
  pub serves : ℕ → ℕ → Bool
  pub term : ℕ → ℕ → List Bitvector → Bitvector

abbrev pub left : List Bitvector → Bitvector
left vs = get_or vs 0 (bv 0 0)

abbrev pub right : List Bitvector → Bitvector
right vs = get_or vs 1 (bv 0 0)

abbrev pub condition : List Bitvector → Bitvector
condition vs = get_or vs 2 (bv 0 0)

abbrev pub always : ℕ → ℕ → Bool
always w p = true

-- the low part, of the width of s
abbrev pub low : Bitvector → Bitvector → Bitvector
low s r = extract (s.width - 1) 0 r

-- an amount of p as a vector of five bits more than s: every p from 0 to 31 fits it
abbrev pub amount : Bitvector → ℕ → Bitvector
amount s p = bv (s.width + 5) p

abbrev pub widened : Bool → ℕ → Bitvector → Bitvector
widened signed wt s = cond signed (sign_extend (wt - s.width) s) (zero_extend (wt - s.width) s)

unfoldable pub terms : List Term
terms =
    record { kind = op_copy; serves = always; term = λ wt p vs. left vs }
    ∷ record { kind = op_not; serves = always; term = λ wt p vs. bvnot (left vs) }
    ∷ record { kind = op_and; serves = always; term = λ wt p vs. bvand (left vs) (right vs) }
    ∷ record { kind = op_or; serves = always; term = λ wt p vs. bvor (left vs) (right vs) }
    ∷ record { kind = op_xor; serves = always; term = λ wt p vs. bvxor (left vs) (right vs) }
    ∷ record { kind = op_shl; serves = always; term = λ wt p vs. low (left vs) (bvshl (zero_extend 5 (left vs)) (amount (left vs) p)) }
    ∷ record { kind = op_lshr; serves = always; term = λ wt p vs. low (left vs) (bvlshr (zero_extend 5 (left vs)) (amount (left vs) p)) }
    ∷ record { kind = op_ashr; serves = always; term = λ wt p vs. low (left vs) (bvashr (sign_extend 5 (left vs)) (amount (left vs) p)) }
    ∷ record { kind = op_rotl; serves = always; term = λ wt p vs. rotate_left p (left vs) }
    ∷ record { kind = op_extract; serves = always; term = λ wt p vs. extract (p + wt - 1) p (left vs) }
    ∷ record { kind = op_concat; serves = always; term = λ wt p vs. concat (left vs) (right vs) }
    ∷ record { kind = op_zext; serves = always; term = λ wt p vs. zero_extend (wt - (left vs).width) (left vs) }
    ∷ record { kind = op_sext; serves = always; term = λ wt p vs. sign_extend (wt - (left vs).width) (left vs) }
    ∷ record { kind = op_add; serves = always; term = λ wt p vs. bvadd (left vs) (right vs) }
    ∷ record { kind = op_sub; serves = always; term = λ wt p vs. bvsub (left vs) (right vs) }
    ∷ record { kind = op_neg; serves = always; term = λ wt p vs. bvneg (left vs) }
    ∷ record { kind = op_mul; serves = always; term = λ wt p vs. bvmul (left vs) (right vs) }
    ∷ record { kind = op_eq; serves = always; term = λ wt p vs. bit1 (bveq (left vs) (right vs)) }
    ∷ record { kind = op_ult; serves = always; term = λ wt p vs. bit1 (bvult (left vs) (right vs)) }
    ∷ record { kind = op_slt; serves = always; term = λ wt p vs. bit1 (bvslt (left vs) (right vs)) }
    ∷ record { kind = op_ite; serves = always; term = λ wt p vs. bvite (bveq (condition vs) (bv 1 1)) (left vs) (right vs) }
    ∷ record { kind = op_umulw; serves = always; term = λ wt p vs. bvmul (widened false wt (left vs)) (widened false wt (right vs)) }
    ∷ record { kind = op_smulw; serves = always; term = λ wt p vs. bvmul (widened true wt (left vs)) (widened true wt (right vs)) }
    ∷ record { kind = op_sumulw; serves = always; term = λ wt p vs. bvmul (widened true wt (left vs)) (widened false wt (right vs)) }
    ∷ []

abbrev pub fits_width : ℕ → ℕ → Bool
fits_width w p = ltb p (2 ^ w)

unfoldable pub narrow_terms : List Term
narrow_terms =
    record { kind = op_shl; serves = fits_width; term = λ wt p vs. bvshl (left vs) (bv (left vs).width p) }
    ∷ record { kind = op_lshr; serves = fits_width; term = λ wt p vs. bvlshr (left vs) (bv (left vs).width p) }
    ∷ record { kind = op_ashr; serves = fits_width; term = λ wt p vs. bvashr (left vs) (bv (left vs).width p) }
    ∷ []

abbrev pub vectors : List ℕ → List ℕ → List Bitvector
vectors [] ns = []
vectors (w ∷ ws) [] = []
vectors (w ∷ ws) (n ∷ ns) = bv w n ∷ vectors ws ns

pub record Served (m : Term) (wt p : ℕ) (ws ns : List ℕ) : Type 0 where
  pub count : length ws ≡ arity m.kind
  pub wide : 1 ≤ wt
  pub widths : All (λ w. 1 ≤ w) ws
  pub below : Below ws ns
  pub fits : T (asks m.kind.rule wt ws p)
  pub parameter : T (not (misused m.kind.use_p p))
  pub serves : T (m.serves (first ws) p)

pub record Agrees (m : Term) : Type 0 where
  pub width_is : (wt p : ℕ) (ws ns : List ℕ) → Served m wt p ws ns → (m.term wt p (vectors ws ns)).width ≡ wt
  pub number_is : (wt p : ℕ) (ws ns : List ℕ) → Served m wt p ws ns → nat (m.term wt p (vectors ws ns)) ≡ m.kind.plain wt ws p ns
