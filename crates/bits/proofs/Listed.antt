-- An entry of a list made by counting up, and how many there are. Assumes nothing.
use mathlib.Core.Path.{◌≡◌, refl, ap, ◌∙◌}
use Prim.Native.Nat.{ℕ, zero, suc, ◌+◌, ◌<◌}
use native.Mathlib.Omega.{arith}
use lib.ListN.{length, get_or}
use Rattle.bits.specs.Counted.{listed}

pub get_or-from : {A : Type 0} (f : ℕ → A) (d : A) (i n k : ℕ) → k < n → get_or (listed f i n) k d ≡ f (i + k)
unfolding listed
get_or-from f d i zero k h = absurd (omega arith)
get_or-from f d i (suc n) zero h = let e : i ≡ i + 0 = omega arith in ap f e
get_or-from f d i (suc n) (suc k) h = let e : suc i + k ≡ i + suc k = omega arith in get_or-from f d (suc i) n k (omega arith) ∙ ap f e

pub get_or-listed : (n : ℕ) (f : ℕ → ℕ) (k : ℕ) → k < n → get_or (listed f 0 n) k 0 ≡ f k
get_or-listed n f k h = let e : 0 + k ≡ k = omega arith in get_or-from f 0 0 n k h ∙ ap f e

pub length-listed : {A : Type 0} (f : ℕ → A) (i n : ℕ) → length (listed f i n) ≡ n
unfolding listed
length-listed f i zero = refl
length-listed f i (suc n) = ap suc (length-listed f (suc i) n)
