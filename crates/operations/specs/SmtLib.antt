-- The functions of SMT-LIB's theory FixedSizeBitVectors and the abbreviations of its logic QF_BV, as SMT-LIB writes them.
--   bvnot bvand bvor      by positions;  bvxor  by these
--   bvneg bvadd bvmul bvshl bvlshr   through numbers;  bvsub bvashr  by abbreviation
--   copies zero_extend sign_extend rotate_left   by concat and extract (SMT-LIB's repeat i is copies (i - 1))
--   bveq bvult bvslt      truth values;  bit1  a truth value written as one bit
--   bvite                 ite of the core theory
use Rattle.std.specs.Prelude.{Bool, true, false, not, cond, ◌&&◌, ◌||◌, ℕ, zero, suc, ◌+◌, ◌-◌, ◌*◌, ◌/◌, ◌^◌, ltb, eqb}
use Rattle.bits.specs.Below.{all_below}
use Rattle.operations.specs.Bitvector.{Bitvector, nat, bv, extract, concat, top}

-- 1 where s is 0, else 0
unfoldable pub bvnot : Bitvector → Bitvector
bvnot s = record { width = s.width; at = λ x. cond (s.at x) false true }

-- 0 where s is 0, else t
unfoldable pub bvand : Bitvector → Bitvector → Bitvector
bvand s t = record { width = s.width; at = λ x. cond (s.at x) (t.at x) false }

-- 1 where s is 1, else t
unfoldable pub bvor : Bitvector → Bitvector → Bitvector
bvor s t = record { width = s.width; at = λ x. cond (s.at x) true (t.at x) }

unfoldable pub bvxor : Bitvector → Bitvector → Bitvector
bvxor s t = bvor (bvand s (bvnot t)) (bvand (bvnot s) t)

unfoldable pub bvneg : Bitvector → Bitvector
bvneg s = bv s.width (2 ^ s.width - nat s)

unfoldable pub bvadd : Bitvector → Bitvector → Bitvector
bvadd s t = bv s.width (nat s + nat t)

unfoldable pub bvsub : Bitvector → Bitvector → Bitvector
bvsub s t = bvadd s (bvneg t)

unfoldable pub bvmul : Bitvector → Bitvector → Bitvector
bvmul s t = bv s.width (nat s * nat t)

unfoldable pub bvshl : Bitvector → Bitvector → Bitvector
bvshl s t = bv s.width (nat s * 2 ^ nat t)

unfoldable pub bvlshr : Bitvector → Bitvector → Bitvector
bvlshr s t = bv s.width (nat s / 2 ^ nat t)

unfoldable pub bvashr : Bitvector → Bitvector → Bitvector
bvashr s t = cond (top s) (bvnot (bvlshr (bvnot s) t)) (bvlshr s t)

-- i + 1 copies of s, one after another
unfoldable pub copies : ℕ → Bitvector → Bitvector
copies zero s = s
copies (suc i) s = concat s (copies i s)

unfoldable pub zero_extend : ℕ → Bitvector → Bitvector
zero_extend zero s = s
zero_extend (suc i) s = concat (copies i (bv 1 0)) s

unfoldable pub sign_extend : ℕ → Bitvector → Bitvector
sign_extend zero s = s
sign_extend (suc i) s = concat (copies i (extract (s.width - 1) (s.width - 1) s)) s

-- i = 0 or m = 1: s; else the rotation by i - 1 of s rotated by one
unfoldable pub rotate_left : ℕ → Bitvector → Bitvector
rotate_left zero s = s
rotate_left (suc i) s =
    cond (eqb s.width 1) s
    (rotate_left i (concat (extract (s.width - 2) 0 s) (extract (s.width - 1) (s.width - 1) s)))

-- the same at every position
unfoldable pub bveq : Bitvector → Bitvector → Bool
bveq s t = all_below s.width (λ x. cond (s.at x) (t.at x) (not (t.at x)))

unfoldable pub bvult : Bitvector → Bitvector → Bool
bvult s t = ltb (nat s) (nat t)

unfoldable pub bvslt : Bitvector → Bitvector → Bool
bvslt s t = (top s && not (top t)) || (cond (top s) (top t) (not (top t)) && bvult s t)

unfoldable pub bit1 : Bool → Bitvector
bit1 b = record { width = 1; at = λ x. b }

unfoldable pub bvite : Bool → Bitvector → Bitvector → Bitvector
bvite c s t = cond c s t
