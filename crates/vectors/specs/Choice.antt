-- The choices of covered operands (01, "Abstract result").
--   Chosen rows ns      one number for each operand row, each chosen freely from what its row covers
--   coversb r n         the test of Covers r n
--   some_choice rows p   whether some choice from the rows passes the test p
use Rattle.std.specs.Prelude.{Bool, not, ◌&&◌, ◌||◌, List, [], ◌∷◌, ℕ, ◌^◌, ltb, eqb}
use Rattle.bits.specs.Bit.{bit}
use Rattle.bits.specs.Below.{some_below, all_below}
use Rattle.vectors.specs.Lists.{Pointwise}
use Rattle.vectors.specs.Row.{Row, Covers}

-- "Operands are chosen independently": one number for each row of the list. A row that a record names twice stands once in the list where it gives one
-- number for both operands (02, request 2; `effect_of` of operations/specs/Record), and twice where it gives two.
abbrev pub Chosen : List Row → List ℕ → Type 0
Chosen rows ns = Pointwise Covers rows ns

unfoldable pub coversb : Row → ℕ → Bool
coversb r n = ltb n (2 ^ r.width) && all_below r.width (λ k. not (eqb (bit r.mask k) 0) || eqb (bit n k) (bit r.value k))

unfoldable pub some_choice : List Row → (List ℕ → Bool) → Bool
some_choice [] p = p []
some_choice (r ∷ rs) p = some_below (2 ^ r.width) (λ n. coversb r n && some_choice rs (λ ns. p (n ∷ ns)))
