-- The plain number of every kind stays below 2 to the power of the target's width whenever the widths fit. Assumes nothing.
--   Bounded k   that, of the kind k
use mathlib.Core.Path.{sym, subst}
use mathlib.Core.Bool.{Bool, true, false, cond, ◌&&◌}
use mathlib.Core.List.{List, [], ◌∷◌}
use Prim.Native.Nat.{ℕ, zero, suc, ◌+◌, ◌-◌, ◌*◌, ◌/◌, ◌%◌, ◌^◌, ◌<◌}
use native.Mathlib.Nat.{mod-lt, lt_of_lt_of_le, lt_of_le_of_lt}
use native.Mathlib.Omega.{arith}
use lib.Dec.{T, ltb, eqb, eqb→eq, leb→le}
use lib.ListN.{get_or, drop}
use lib.Bits.{and_lt, or_lt, xor_lt}
use lib.Pow.{pow_pos, pow_mono, pow-add, shr_le, ones_sub-lt}
use lib.Arith.{digits_lt}
use Rattle.bits.specs.Bit.{bit, digit}
use Rattle.bits.proofs.Bits.{digit_lt, number-below}
use Rattle.bits.proofs.Bools.{T-left, T-right}
use Rattle.vectors.specs.Lists.{All, all_of}
use Rattle.vectors.proofs.Lists.{◌⨾◌}
use Rattle.operations.specs.Kind.{asks, Kind, first, second, third, joined_widths, cell_widths}
use Rattle.operations.specs.Memory.{load_number, store_number}
use Rattle.operations.specs.Wide.{wide_number}
use Rattle.operations.specs.Kinds.{kinds, kind_of}
use Rattle.operations.proofs.Lookup.{any-kind}
use Rattle.operations.specs.Result.{Below}

abbrev pub Bounded : Kind → Type 0
Bounded k = (wt p : ℕ) (ws ns : List ℕ) → T (asks k.rule wt ws p) → Below ws ns → k.plain wt ws p ns < 2 ^ wt

-- operand number i is below 2 to the power of its width; past the end both are 0
pub below_at : (ws ns : List ℕ) → Below ws ns → (i : ℕ) → get_or ns i 0 < 2 ^ get_or ws i 0
below_at [] [] c i = omega arith
below_at [] (n ∷ ns) c i = absurd c
below_at (w ∷ ws) [] c i = absurd c
below_at (w ∷ ws) (n ∷ ns) c zero = c.0
below_at (w ∷ ws) (n ∷ ns) c (suc i) = below_at ws ns c.1 i

-- the same at a width that is tested to be that one
below_as : (ws ns : List ℕ) → Below ws ns → (w i : ℕ) → T (eqb w (get_or ws i 0)) → get_or ns i 0 < 2 ^ w
below_as ws ns c w i t = subst (λ (x : ℕ). get_or ns i 0 < 2 ^ x) (sym (eqb→eq w (get_or ws i 0) t)) (below_at ws ns c i)

-- a number below 2 to a width that is tested to be the target's
at_width : (n w v : ℕ) → T (eqb w v) → n < 2 ^ v → n < 2 ^ w
at_width n w v t h = subst (λ (x : ℕ). n < 2 ^ x) (sym (eqb→eq w v t)) h

-- a truth value as a number, in a target of one bit
digit-below : (b : Bool) (u : Bool) (w : ℕ) → T (b && eqb w 1) → digit u < 2 ^ w
digit-below b u w t = subst (λ (x : ℕ). digit u < 2 ^ x) (sym (eqb→eq w 1 (T-right b (eqb w 1) t))) (digit_lt u)

cond_below : (b : Bool) (x y n : ℕ) → x < n → y < n → cond b x y < n
cond_below true x y n p q = p
cond_below false x y n p q = q

-- a number modulo 2 ^ wa where all widths are equal
modulo-below : (n wt : ℕ) (ws : List ℕ) (b : Bool) → T (eqb wt (first ws) && b) → n % 2 ^ first ws < 2 ^ wt
modulo-below n wt ws b t = at_width (n % 2 ^ first ws) wt (first ws) (T-left (eqb wt (first ws)) b t) (mod-lt n (pow_pos (first ws)))

-- two operands of the target's width
both_below : {n : ℕ} (ws ns : List ℕ) → Below ws ns → (wt : ℕ) → T (eqb wt (first ws) && eqb wt (second ws))
    → (first ns < 2 ^ wt → second ns < 2 ^ wt → n < 2 ^ wt) → n < 2 ^ wt
both_below ws ns c wt t f = f (below_as ws ns c wt 0 (T-left (eqb wt (first ws)) _ t)) (below_as ws ns c wt 1 (T-right (eqb wt (first ws)) _ t))

joined-below : (a b v w : ℕ) → a < 2 ^ v → b < 2 ^ w → a * 2 ^ w + b < 2 ^ (v + w)
joined-below a b v w h g = subst (λ (m : ℕ). a * 2 ^ w + b < m) (sym (pow-add 2 v w)) (digits_lt h g)

-- a product as wide as both operands
wide_below : (sa sb : Bool) (wt p : ℕ) (ws ns : List ℕ) → T (asks joined_widths wt ws p) → Below ws ns → wide_number sa sb wt ws ns < 2 ^ wt
wide_below sa sb wt p ws ns t c = mod-lt _ (pow_pos wt)

-- the data and the cells, and 0 past them, where all widths but that of the address are the target's
cells-below : (wt : ℕ) (ws ns : List ℕ) → T (all_of (eqb wt) (drop 1 ws)) → Below ws ns → (i : ℕ) → get_or ns (suc i) 0 < 2 ^ wt
unfolding all_of
cells-below wt [] [] t c i = pow_pos wt
cells-below wt [] (n ∷ ns) t c i = absurd c
cells-below wt (w ∷ ws) [] t c i = absurd c
cells-below wt (w ∷ ws) (n ∷ ns) t c i = go ws ns t c.1 i
  where
    go : (ws ns : List ℕ) → T (all_of (eqb wt) ws) → Below ws ns → (i : ℕ) → get_or ns i 0 < 2 ^ wt
    go [] [] t c i = pow_pos wt
    go [] (n ∷ ns) t c i = absurd c
    go (w ∷ ws) [] t c i = absurd c
    go (w ∷ ws) (n ∷ ns) t c zero = at_width n wt w (T-left (eqb wt w) (all_of (eqb wt) ws) t) c.0
    go (w ∷ ws) (n ∷ ns) t c (suc i) = go ws ns (T-right (eqb wt w) (all_of (eqb wt) ws) t) c.1 i

load_below : (wt p : ℕ) (ws ns : List ℕ) → T (asks cell_widths wt ws p) → Below ws ns → load_number ns < 2 ^ wt
load_below wt p ws [] t c = pow_pos wt
load_below wt p ws (x ∷ cells) t c = cells-below wt ws (x ∷ cells) t c x

store_below : (wt p : ℕ) (ws ns : List ℕ) → T (asks cell_widths wt ws p) → Below ws ns → store_number p ns < 2 ^ wt
store_below wt p ws ns t c = cond_below (eqb (first ns) p) (second ns) (third ns) (2 ^ wt) (cells-below wt ws ns t c 0) (cells-below wt ws ns t c 1)

-- ---- every kind, in the order of the list

pub all-bounded : All Bounded kinds
unfolding kinds
all-bounded =
    (λ wt p ws ns t c. below_as ws ns c wt 0 t)
    ⨾ (λ wt p ws ns t c. at_width _ wt (first ws) t (ones_sub-lt (first ws) (first ns)))
    ⨾ (λ wt p ws ns t c. both_below ws ns c wt t (and_lt wt (first ns) (second ns)))
    ⨾ (λ wt p ws ns t c. both_below ws ns c wt t (or_lt wt (first ns) (second ns)))
    ⨾ (λ wt p ws ns t c. both_below ws ns c wt t (xor_lt wt (first ns) (second ns)))
    ⨾ (λ wt p ws ns t c. at_width _ wt (first ws) t (mod-lt (first ns * 2 ^ p) (pow_pos (first ws))))
    ⨾ (λ wt p ws ns t c. lt_of_le_of_lt (shr_le (first ns) p) (below_as ws ns c wt 0 t))
    ⨾ (λ wt p ws ns t c. at_width _ wt (first ws) t (number-below (first ws) _))
    ⨾ (λ wt p ws ns t c. at_width _ wt (first ws) t (number-below (first ws) _))
    ⨾ (λ wt p ws ns t c. mod-lt (first ns / 2 ^ p) (pow_pos wt))
    ⨾ (λ wt p ws ns t c. at_width _ wt (first ws + second ws) t (joined-below (first ns) (second ns) (first ws) (second ws) (below_at ws ns c 0) (below_at ws ns c 1)))
    ⨾ (λ wt p ws ns t c. lt_of_lt_of_le (below_at ws ns c 0) (pow_mono (leb→le (first ws) wt t)))
    ⨾ (λ wt p ws ns t c. number-below wt _)
    ⨾ (λ wt p ws ns t c. modulo-below (first ns + second ns) wt ws _ t)
    ⨾ (λ wt p ws ns t c. modulo-below (2 ^ first ws + first ns - second ns) wt ws _ t)
    ⨾ (λ wt p ws ns t c. at_width _ wt (first ws) t (mod-lt (2 ^ first ws - first ns) (pow_pos (first ws))))
    ⨾ (λ wt p ws ns t c. modulo-below (first ns * second ns) wt ws _ t)
    ⨾ (λ wt p ws ns t c. digit-below (eqb (first ws) (second ws)) (eqb (first ns) (second ns)) wt t)
    ⨾ (λ wt p ws ns t c. digit-below (eqb (first ws) (second ws)) (ltb (first ns) (second ns)) wt t)
    ⨾ (λ wt p ws ns t c.
    digit-below (eqb (first ws) (second ws)) (ltb (first ns + 2 ^ first ws * bit (second ns) (first ws - 1)) (second ns + 2 ^ first ws * bit (first ns) (first ws - 1))) wt t)
    ⨾ (λ wt p ws ns t c. both_below ws ns c wt (T-left (eqb wt (first ws) && eqb wt (second ws)) _ t) (cond_below (eqb (third ns) 1) (first ns) (second ns) (2 ^ wt)))
    ⨾ wide_below false false
    ⨾ wide_below true true
    ⨾ wide_below true false
    ⨾ load_below
    ⨾ store_below
    ⨾ tt

-- the kind that a record's word names
pub kind-bounded : (n : ℕ) → Bounded (kind_of n)
kind-bounded n = any-kind Bounded all-bounded (λ wt p ws ns t c. pow_pos wt) n
