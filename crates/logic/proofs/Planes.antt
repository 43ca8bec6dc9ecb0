-- The words that move a plane are the kinds' plain numbers, for every width and in a word of n bits. Assumes nothing.
--   shl-word, extract-word, concat-word   shifts, cut to the width or joined
--   turned-top                            a number with its top bit turned
--   extended-word                         a number extended by its sign, or by zeros
--   ashr-sext                             an arithmetic shift is a shift and copies of the top bit
use Rattle.std.proofs.Common.{◌≡◌, ℕ, zero, suc, ◌+◌, ◌-◌, ◌*◌, ◌/◌, ◌%◌, ◌^◌, ◌<◌, ◌≤◌, min, Bool, true, false, [], ◌∷◌, sym, ap, ◌∙◌, subst, ap₂, lt_of_lt_of_le, mod-lt, mod-eq_of_lt, pow-suc, arith, pow_pos, pow_mono, shl_exact, shr_lt}
use native.Mathlib.Nat.{add-mod_right}
use lib.Bits.{bit_and, bit_or, bit_xor, and_mask, or_shifted, xor_block, xor_zero_l, xor_zero_r, xor_self}
use Rattle.bits.specs.Bit.{bit}
use Rattle.bits.proofs.Bits.{bit-lt}
use Rattle.bits.proofs.Shifts.{bit-div, top_split}
use Rattle.bits.proofs.Numbers.{digit-is_set, is_set-same, number-ext}
use Rattle.operations.specs.Moves.{op_shl, op_ashr, op_extract, op_concat, op_sext}
use Rattle.operations.specs.Encoding.{sign_place}
use Rattle.operations.specs.Wide.{counted_as}
use Rattle.operations.proofs.WideNumbers.{counted-unsigned}
use Rattle.bits.proofs.Words.{cut_twice, sub-cut}

pub shl-word : (w p x n : ℕ) → w ≤ n → bit_and (x * 2 ^ p % 2 ^ n) (2 ^ w - 1) ≡ op_shl.plain w (w ∷ []) p (x ∷ [])
unfolding op_shl
shl-word w p x n h = and_mask (x * 2 ^ p % 2 ^ n) w ∙ cut_twice w n (x * 2 ^ p) h

pub extract-word : (wt wa p x : ℕ) → bit_and (x / 2 ^ p) (2 ^ wt - 1) ≡ op_extract.plain wt (wa ∷ []) p (x ∷ [])
unfolding op_extract
extract-word wt wa p x = and_mask (x / 2 ^ p) wt

pub concat-word : (wt wa wb x y n : ℕ) → x < 2 ^ wa → y < 2 ^ wb → wa + wb ≤ n → bit_or (x * 2 ^ wb % 2 ^ n) y ≡ op_concat.plain wt (wa ∷ wb ∷ []) 0 (x ∷ y ∷ [])
unfolding op_concat
concat-word wt wa wb x y n h i l = ap (λ (z : ℕ). bit_or z y) (shl_exact wa wb n h l) ∙ or_shifted x wb y i

-- ---- copies of the top bit

-- with H for the top bit's place and T for the width's end: the top bit b turned, H taken away, and the rest y
turned : (b y H T : ℕ) → b < 2 → y < H → H + H ≤ T → (bit_xor b 1 * H + y + (T - 1 - H) + 1) % T ≡ b * H + y + b * (T - (H + H))
turned zero y H T p q r =
    let e : bit_xor 0 1 * H + y + (T - 1 - H) + 1 ≡ y + T = omega (arith, ap (λ (c : ℕ). c * H) (xor_zero_l 1)) in
    ap (λ (c : ℕ). c % T) e ∙ add-mod_right y T ∙ mod-eq_of_lt (omega arith) ∙ omega arith
turned (suc zero) y H T p q r =
    let e : bit_xor 1 1 * H + y + (T - 1 - H) + 1 ≡ 1 * H + y + 1 * (T - (H + H)) = omega (arith, ap (λ (c : ℕ). c * H) (xor_self 1)) in
    ap (λ (c : ℕ). c % T) e ∙ mod-eq_of_lt (omega arith)
turned (suc (suc b)) y H T p q r = absurd (omega arith)

module _ (wa x : ℕ) (h : 1 ≤ wa) (l : x < 2 ^ wa) where
  abbrev H : ℕ
  H = 2 ^ (wa - 1)

  twice : 2 ^ wa ≡ H + H
  twice = let e : wa ≡ suc (wa - 1) = omega arith in ap (λ (n : ℕ). 2 ^ n) e ∙ omega (arith, pow-suc 2 (wa - 1))

  split : x ≡ bit x (wa - 1) * H + x % H
  split = let e : wa ≡ suc (wa - 1) = omega arith in top_split x (wa - 1) (subst (λ (n : ℕ). x < 2 ^ n) e l)

  -- x with its top bit turned
  pub turned-top : bit_xor x (2 ^ (wa - 1)) ≡ bit_xor (bit x (wa - 1)) 1 * 2 ^ (wa - 1) + x % 2 ^ (wa - 1)
  turned-top =
      let e : H ≡ 1 * H + 0 = omega arith in
      ap₂ bit_xor split e
      ∙ xor_block (wa - 1) (bit x (wa - 1)) 1 (x % H) 0 (mod-lt x (pow_pos (wa - 1))) (pow_pos (wa - 1))
      ∙ ap (λ (y : ℕ). bit_xor (bit x (wa - 1)) 1 * H + y) (xor_zero_r (x % H))

module _ (wt wa x : ℕ) (h : 1 ≤ wa) (i : wa ≤ wt) (l : x < 2 ^ wa) where
  -- d is the wrapping difference of that and the sign's place, in a word of n bits
  signed_word : (n d : ℕ) → wt ≤ n → (d + 2 ^ (wa - 1)) % 2 ^ n ≡ bit_xor x (2 ^ (wa - 1)) → bit_and d (2 ^ wt - 1) ≡ counted_as true wt wa x
  unfolding counted_as
  signed_word n d k e =
      let H = 2 ^ (wa - 1) in
      let m : H + H ≤ 2 ^ wt = subst (λ (y : ℕ). y ≤ 2 ^ wt) (twice wa x h l) (pow_mono i) in
      and_mask d wt
      ∙ sub-cut wt n d (bit_xor x H) H k (omega (arith, pow_pos (wa - 1))) e
      ∙ ap (λ (y : ℕ). (y + (2 ^ wt - 1 - H) + 1) % 2 ^ wt) (turned-top wa x h l)
      ∙ turned (bit x (wa - 1)) (x % H) H (2 ^ wt) (bit-lt x (wa - 1)) (mod-lt x (pow_pos (wa - 1))) m
      ∙ (λ ι. sym (split wa x h l) ι + sym (digit-is_set x (wa - 1)) ι * (2 ^ wt - sym (twice wa x h l) ι))

  unsigned-word : (n d : ℕ) → wt ≤ n → (d + 0) % 2 ^ n ≡ bit_xor x 0 → bit_and d (2 ^ wt - 1) ≡ counted_as false wt wa x
  unsigned-word n d k e =
      let z : d + 0 ≡ d = omega arith in
      and_mask d wt
      ∙ sym (cut_twice wt n d k)
      ∙ ap (λ (y : ℕ). y % 2 ^ wt) (ap (λ (y : ℕ). y % 2 ^ n) (sym z) ∙ e ∙ xor_zero_r x)
      ∙ mod-eq_of_lt (lt_of_lt_of_le l (pow_mono i))
      ∙ sym (counted-unsigned wt wa x)

  pub extended-word : (n t d : ℕ) → wt ≤ n → (d + t) % 2 ^ n ≡ bit_xor x t → (signed : Bool) → t ≡ sign_place signed wa → bit_and d (2 ^ wt - 1) ≡ counted_as signed wt wa x
  extended-word n t d k e false f = unsigned-word n d k (subst (λ (y : ℕ). (d + y) % 2 ^ n ≡ bit_xor x y) (f ∙ omega arith) e)
  extended-word n t d k e true f = signed_word n d k (subst (λ (y : ℕ). (d + y) % 2 ^ n ≡ bit_xor x y) (f ∙ omega arith) e)

-- ---- ashr

pub ashr-sext : (w v p q x : ℕ) → v + q ≡ w → min p (w - 1) ≡ q → op_sext.plain w (v ∷ []) 0 ((x / 2 ^ q) ∷ []) ≡ op_ashr.plain w (w ∷ []) p (x ∷ [])
unfolding op_sext op_ashr
ashr-sext w v p q x s e =
    number-ext w _ _ (λ k l.
    let d : min k (v - 1) + q ≡ min (k + p) (w - 1) = omega arith in
    is_set-same (x / 2 ^ q) (min k (v - 1)) x (min (k + p) (w - 1)) (bit-div x q (min k (v - 1)) ∙ ap (bit x) d))

-- a plane shifted down by q has q bits fewer
pub shifted-below : (w v q x : ℕ) → v + q ≡ w → x < 2 ^ w → x / 2 ^ q < 2 ^ v
shifted-below w v q x s l = shr_lt v q (subst (λ (n : ℕ). x < 2 ^ n) (sym s) l)
