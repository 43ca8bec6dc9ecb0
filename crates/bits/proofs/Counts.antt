-- Counts of the set bits of a number. Assumes nothing.
use mathlib.Core.Path.{◌≡◌, refl, ap}
use Prim.Native.Nat.{ℕ, zero, suc, ◌+◌, ◌/◌, ◌≤◌}
use native.Mathlib.Omega.{arith}
use lib.Count.{ones_in}

pub ones_in-zero : (w : ℕ) → ones_in w 0 ≡ 0
unfolding ones_in
ones_in-zero zero = refl
ones_in-zero (suc w) = ap (λ (x : ℕ). 0 + x) (ones_in-zero w)

pub ones_in-le : (w n : ℕ) → ones_in w n ≤ w
unfolding ones_in
ones_in-le zero n = omega arith
ones_in-le (suc w) n = let r = ones_in-le w (n / 2) in omega arith
