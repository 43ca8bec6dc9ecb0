-- The signed order is the order by the key: a number below 2 ^ w with its top bit flipped. Assumes nothing.
use Rattle.std.proofs.Common.{◌≡◌, ℕ, suc, ◌+◌, ◌-◌, ◌*◌, ◌^◌, ◌<◌, ◌≤◌, ltb, sym, ap, ◌∙◌, subst, add_comm, one-mul, pow-suc, mul-zero, mul-one, arith, ltb→lt, lt→ltb}
use native.Mathlib.Decide.{dec_lt}
use lib.Bits.{bit_xor, xor_comm, xor_shifted}
use Rattle.bits.specs.Bit.{bit}
use Rattle.bits.proofs.Bits.{bit-above}
use Rattle.bits.proofs.Shifts.{top_one}
use Rattle.operations.proofs.SmtBits.{T-ext}
use Rattle.logic.proofs.Signed.{flip, flip_twice}

-- below the half the key is the number and the half
flip_low : (w x : ℕ) → x < 2 ^ (w - 1) → flip w x ≡ x + 2 ^ (w - 1)
unfolding flip
flip_low w x l =
    xor_comm x (2 ^ (w - 1))
    ∙ ap (λ (y : ℕ). bit_xor y x) (sym (one-mul (2 ^ (w - 1))))
    ∙ xor_shifted 1 (w - 1) x l
    ∙ ap (λ (y : ℕ). y + x) (one-mul (2 ^ (w - 1)))
    ∙ add_comm (2 ^ (w - 1)) x

double : (w : ℕ) → 1 ≤ w → 2 ^ w ≡ 2 ^ (w - 1) * 2
double w h = let e : w ≡ suc (w - 1) = omega arith in ap (λ (n : ℕ). 2 ^ n) e ∙ pow-suc 2 (w - 1)

-- from the half on it is the number less the half
flip_high : (w x : ℕ) → 1 ≤ w → x < 2 ^ w → 2 ^ (w - 1) ≤ x → flip w x ≡ x - 2 ^ (w - 1)
flip_high w x h l i =
    let d = double w h in
    let e : x ≡ flip w (x - 2 ^ (w - 1)) = (omega arith) ∙ sym (flip_low w (x - 2 ^ (w - 1)) (omega arith)) in
    ap (flip w) e ∙ flip_twice w (x - 2 ^ (w - 1)) h (omega arith)

-- 2 ^ w is taken from a number whose top bit is 1, and the half is added
flip-sum : (w x : ℕ) → 1 ≤ w → x < 2 ^ w → flip w x + 2 ^ w * bit x (w - 1) ≡ x + 2 ^ (w - 1)
flip-sum w x h l =
    elim (dec_lt x (2 ^ (w - 1))) [
      | yes y ↦
          let a : 2 ^ w * bit x (w - 1) ≡ 0 = ap (λ (b : ℕ). 2 ^ w * b) (bit-above (w - 1) x (w - 1) y (omega arith)) ∙ mul-zero (2 ^ w) in
          let k = flip_low w x y in
          omega arith
      | no n ↦
          let e : w ≡ suc (w - 1) = omega arith in
          let z : 2 ^ (w - 1) ≤ x = omega arith in
          let a : 2 ^ w * bit x (w - 1) ≡ 2 ^ w = ap (λ (b : ℕ). 2 ^ w * b) (top_one x (w - 1) (subst (λ (i : ℕ). x < 2 ^ i) e l) z) ∙ mul-one (2 ^ w) in
          let k = flip_high w x h l z in
          let d = double w h in
          omega arith
    ]

pub slt-key : (w x y : ℕ) → 1 ≤ w → x < 2 ^ w → y < 2 ^ w → ltb (x + 2 ^ w * bit y (w - 1)) (y + 2 ^ w * bit x (w - 1)) ≡ ltb (flip w x) (flip w y)
slt-key w x y h lx ly =
    let p = flip-sum w x h lx in
    let q = flip-sum w y h ly in
    T-ext _ _
    (λ t. let l = ltb→lt (x + 2 ^ w * bit y (w - 1)) (y + 2 ^ w * bit x (w - 1)) t in lt→ltb (flip w x) (flip w y) (omega arith))
    (λ t. let l = ltb→lt (flip w x) (flip w y) t in lt→ltb (x + 2 ^ w * bit y (w - 1)) (y + 2 ^ w * bit x (w - 1)) (omega arith))
