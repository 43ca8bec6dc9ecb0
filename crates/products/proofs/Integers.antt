-- An integer as a difference of two numbers, by cases on its sign, so that `omega` reads it. Assumes nothing.
--   Minus z p q   z is p - q
use mathlib.Core.Path.{◌≡◌, refl, sym, ap, ◌∙◌}
use mathlib.Core.Bool.{Bool, true, false, cond}
use Prim.Native.Nat.{ℕ, zero, suc, ◌+◌, ◌-◌, ◌*◌, ◌/◌, ◌%◌, ◌≤◌, ◌<◌}
use native.Mathlib.Nat.{mul-add, mul-suc, add-mul-div_left, mul-add-div, div-eq_of_lt, div-add-mod, mod-lt, lt_of_mul-lt-mul_left}
use native.Mathlib.Omega.{arith}
use lib.Dec.{ltb, leb→le, le→leb}
use lib.IntN.{ℤ, pos, negsuc, sub_ℕ, ◌+ℤ◌, ◌-ℤ◌}
use lib.Signed.{mag, shr_z, ◌≤ℤ◌}
use borrow.Author.Tests.{ltb-true, ltb-false}
use Rattle.products.specs.ColumnSum.{mod_two}

abbrev pub Minus : ℤ → ℕ → ℕ → Type 0
Minus (pos n) p q = n + q ≡ p
Minus (negsuc n) p q = p + suc n ≡ q

-- another difference of the same value
pub minus-as : (z : ℤ) (a b p q : ℕ) → Minus z a b → a + q ≡ p + b → Minus z p q
minus-as (pos n) a b p q m e = omega arith
minus-as (negsuc n) a b p q m e = omega arith

pub minus-unique : (y z : ℤ) (p q r s : ℕ) → Minus y p q → Minus z r s → p + s ≡ r + q → y ≡ z
minus-unique (pos a) (pos b) p q r s m n e = ap pos (omega arith)
minus-unique (pos a) (negsuc b) p q r s m n e = absurd (omega arith)
minus-unique (negsuc a) (pos b) p q r s m n e = absurd (omega arith)
minus-unique (negsuc a) (negsuc b) p q r s m n e = ap negsuc (omega arith)

-- equal integers are equal differences
pub minus-same : (z : ℤ) (p q r s : ℕ) → Minus z p q → Minus z r s → p + s ≡ r + q
minus-same (pos n) p q r s m l = omega arith
minus-same (negsuc n) p q r s m l = omega arith

-- ---- sums and differences

sub_by : (a b : ℕ) (t : Bool) → ltb a b ≡ t → Minus (cond t (negsuc (b - suc a)) (pos (a - b))) a b
sub_by a b true e = omega (arith, ltb-true a b e)
sub_by a b false e = omega (arith, ltb-false a b e)

minus-subℕ : (a b p q : ℕ) → a + q ≡ p + b → Minus (sub_ℕ a b) p q
minus-subℕ a b p q e = minus-as (sub_ℕ a b) a b p q (sub_by a b (ltb a b) refl) e

pub minus-add : (y z : ℤ) (p q r s : ℕ) → Minus y p q → Minus z r s → Minus (y +ℤ z) (p + r) (q + s)
minus-add (pos a) (pos b) p q r s m n = omega arith
minus-add (pos a) (negsuc b) p q r s m n = minus-subℕ a (suc b) (p + r) (q + s) (omega arith)
minus-add (negsuc a) (pos b) p q r s m n = minus-subℕ b (suc a) (p + r) (q + s) (omega arith)
minus-add (negsuc a) (negsuc b) p q r s m n = omega arith

pub minus_pos : (p q : ℕ) → Minus (pos p -ℤ pos q) p q
minus_pos p zero = omega arith
minus_pos p (suc q) = minus-subℕ p (suc q) p (suc q) (omega arith)

-- ---- order, size, quotient, remainder

pub minus-le : (y z : ℤ) (p q r s : ℕ) → Minus y p q → Minus z r s → p + s ≤ r + q → y ≤ℤ z
minus-le (pos a) (pos b) p q r s m n h = record { le = le→leb a b (omega arith) }
minus-le (pos a) (negsuc b) p q r s m n h = absurd (omega arith)
minus-le (negsuc a) (pos b) p q r s m n h = record { le = tt }
minus-le (negsuc a) (negsuc b) p q r s m n h = record { le = le→leb b a (omega arith) }

pub le-minus : (y z : ℤ) (p q r s : ℕ) → Minus y p q → Minus z r s → y ≤ℤ z → p + s ≤ r + q
le-minus (pos a) (pos b) p q r s m n h = let l = leb→le a b h.le in omega arith
le-minus (pos a) (negsuc b) p q r s m n h = absurd h.le
le-minus (negsuc a) (pos b) p q r s m n h = omega arith
le-minus (negsuc a) (negsuc b) p q r s m n h = let l = leb→le b a h.le in omega arith

pub minus-mag : (z : ℤ) (p q n : ℕ) → Minus z p q → p < n → q ≤ n → mag z < n
minus-mag (pos a) p q n m h k = omega arith
minus-mag (negsuc a) p q n m h k = omega arith

-- the quotient that rounds down
pub minus-floor : (z : ℤ) (p H c : ℕ) → 0 < H → Minus z p (H * c) → Minus (shr_z z H) (p / H) c
minus-floor (pos n) p H c h m = sym (ap (λ (x : ℕ). x / H) (sym m) ∙ add-mul-div_left n c h)
minus-floor (negsuc n) p H c h m =
    let a = n / H in
    let r = n % H in
    let e : H * a + r ≡ n = div-add-mod n H in
    let l : r < H = mod-lt n h in
    let g : H * a < H * c = omega arith in
    let s : a < c = lt_of_mul-lt-mul_left H g in
    let d = c - suc a in
    let f : c ≡ d + suc a = omega arith in
    let u : H * c ≡ H * d + H * suc a = ap (λ (x : ℕ). H * x) f ∙ mul-add H d (suc a) in
    let v : H * suc a ≡ H * a + H = mul-suc H a in
    let w : p ≡ H * d + (H - 1 - r) = omega arith in
    let y : H - 1 - r < H = omega arith in
    let q : p / H ≡ d + 0 = ap (λ (x : ℕ). x / H) w ∙ mul-add-div h d (H - 1 - r) ∙ ap (λ (x : ℕ). d + x) (div-eq_of_lt y) in
    omega arith

pub minus-mod : (z : ℤ) (p q : ℕ) → Minus z p q → mod_two z ≡ (p + q) % 2
minus-mod (pos n) p q m = omega arith
minus-mod (negsuc n) p q m = omega arith
