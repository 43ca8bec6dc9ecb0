-- The bits of a number, and the number that has given bits (01, "Vectors and rows": bit 0 is lowest).
--   bit n k      bit k of n, 0 or 1
--   is_set n k    whether it is 1
--   digit b      1 for true, 0 for false
--   number w p   the number below 2 ^ w whose bit k is 1 exactly where p k is true
use Rattle.std.specs.Prelude.{ℕ, zero, suc, ◌+◌, ◌*◌, ◌/◌, ◌%◌, ◌^◌, Bool, true, false, eqb}

unfoldable pub bit : ℕ → ℕ → ℕ
bit n k = n / 2 ^ k % 2

unfoldable pub is_set : ℕ → ℕ → Bool
is_set n k = eqb (bit n k) 1

abbrev pub digit : Bool → ℕ
digit true = 1
digit false = 0

unfoldable pub number : ℕ → (ℕ → Bool) → ℕ
number zero p = zero
number (suc w) p = number w (λ k. p (suc k)) * 2 + digit (p zero)
