-- The lowest bits of a number in the other order (01, "Products": pairs meet by reversing one operand).
--   reversed w n    the number below 2 ^ w whose bit k is bit w - 1 - k of n
--   reversed_bytes   "a fixed table of 256 reversed bytes"
use Rattle.std.specs.Prelude.{List, ℕ, ◌-◌}
use Rattle.bits.specs.Bit.{is_set, number}
use Rattle.bits.specs.Counted.{listed}

unfoldable pub reversed : ℕ → ℕ → ℕ
reversed w n = number w (λ k. is_set n (w - 1 - k))

unfoldable pub reversed_bytes : List ℕ
reversed_bytes = listed (reversed 8) 0 256
