-- The abstract result of an operation (01, "Abstract result"; document 002, equation 8), one definition for every operation; and the best vector for a set of
-- numbers (02, request 8).
--   vector_by_bits w may   the vector of width w: X where both values may be, else the one that may
--   may f rows b k       some choice of covered operands makes bit k of f's result b
--   best w f rows        the best vector for f's results: X where both may be, else what all choices give
--   shown w p b k        some number below 2 ^ w that passes the test p has b at bit k
--   best_of w p           the best vector for these numbers
--   Exact w f rows r     what demand 3 says of a target row: r is the best result of f at width w over the operand rows
use Rattle.std.specs.Prelude.{◌≡◌, Bool, not, ◌&&◌, ◌↔◌, List, ℕ, ◌^◌, ◌≤◌, ◌<◌, eqb}
use Rattle.bits.specs.Bit.{bit, number}
use Rattle.bits.specs.Below.{some_below}
use Rattle.vectors.specs.Row.{Row, Covers, KnownAs, unknowns}
use Rattle.vectors.specs.Choice.{Chosen, some_choice}

-- "if both, it is X"
abbrev pub vector_by_bits : ℕ → (ℕ → ℕ → Bool) → Row
vector_by_bits w may =
    record {
      width = w;
      mask = number w (λ k. may 0 k && may 1 k);
      value = number w (λ k. may 1 k && not (may 0 k));
    }

-- "output bit k may be 0 if some choice of covered operands gives 0 there, and may be 1 likewise"
unfoldable pub may : (List ℕ → ℕ) → List Row → ℕ → ℕ → Bool
may f rows b k = some_choice rows (λ ns. eqb (bit (f ns) k) b)

unfoldable pub best : ℕ → (List ℕ → ℕ) → List Row → Row
best w f rows = vector_by_bits w (may f rows)

-- "the best vector covering all numbers" of a set (02, request 8)
abbrev pub shown : ℕ → (ℕ → Bool) → ℕ → ℕ → Bool
shown w p b k = some_below (2 ^ w) (λ n. p n && eqb (bit n k) b)

unfoldable pub best_of : ℕ → (ℕ → Bool) → Row
best_of w p = vector_by_bits w (shown w p)

-- known_iff: a bit is known as 0, or as 1, exactly when all choices give that value there.
-- least: every vector of that width that covers all results has at least as many unknown bits.
pub record Exact (w : ℕ) (f : List ℕ → ℕ) (rows : List Row) (r : Row) : Type 0 where
  pub width_is : r.width ≡ w
  pub known_iff : (k : ℕ) → k < w → (b : ℕ) → b < 2 → KnownAs r k b ↔ ((ns : List ℕ) → Chosen rows ns → bit (f ns) k ≡ b)
  pub covers : (ns : List ℕ) → Chosen rows ns → Covers r (f ns)
  pub least : (q : Row) → q.width ≡ w → ((ns : List ℕ) → Chosen rows ns → Covers q (f ns)) → unknowns r ≤ unknowns q
