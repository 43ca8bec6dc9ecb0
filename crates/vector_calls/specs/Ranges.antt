-- Registers known within a range (02, request 8): what range refuses and answers.
--   ends_exchanged low high, end_over w n   the conditions of 17;   end_faults w low high   these as a list
--   input_faults w m v low high   4, 5 and 17
--   empty_faults w m v low high   18
--   range_checks w m v low high   what range refuses, in order
--   range_of w m v low high       what it answers
--   Absent w m v low high        the other conditions do not hold, and there is no number to find
use Rattle.std.specs.Prelude.{Bool, List, [], ◌∷◌, ◌++◌, ℕ, ◌^◌, leb, ltb}
use Rattle.vectors.specs.Row.{row}
use Rattle.operations.specs.Faults.{Fault, fault}
use Rattle.range_search.specs.declared.Range.{Range}
use Rattle.range_search.specs.Range.{Between, none_between, range_in}
use Rattle.checks.specs.Check.{Answer, Check, verdict, placed, Passed}
use Rattle.checks.specs.Checks.{width_faults, vector_faults}

-- "ends in the wrong order"
abbrev pub ends_exchanged : ℕ → ℕ → Bool
ends_exchanged low high = ltb high low

-- "an end not below 2^w"
abbrev pub end_over : ℕ → ℕ → Bool
end_over w n = leb (2 ^ w) n

abbrev pub end_faults : ℕ → ℕ → ℕ → List Fault
end_faults w low high = fault (ends_exchanged low high) 17 ∷ fault (end_over w low) 17 ∷ fault (end_over w high) 17 ∷ []

-- "Checks run as 4, then 5. It refuses ends in the wrong order, or an end not below 2^w, as 17"
abbrev pub input_faults : ℕ → ℕ → ℕ → ℕ → ℕ → List Fault
input_faults w m v low high = width_faults w ++ (vector_faults w m v ++ end_faults w low high)

-- "and the absence of any such number as 18"
abbrev pub empty_faults : ℕ → ℕ → ℕ → ℕ → ℕ → List Fault
empty_faults w m v low high = fault (none_between (row w m v) low high) 18 ∷ []

-- "in that order after 5". "A call on bare vectors puts place 0 on every refusal." (02, request 6)
unfoldable pub range_checks : ℕ → ℕ → ℕ → ℕ → ℕ → List Check
range_checks w m v low high = placed 0 (input_faults w m v low high) ++ placed 0 (empty_faults w m v low high)

-- "For a width, a vector and two ends, give the best vector covering all numbers .., with the smallest and the largest of them."
unfoldable pub range_of : ℕ → ℕ → ℕ → ℕ → ℕ → Answer Range
range_of w m v low high = verdict (range_checks w m v low high) (range_in (row w m v) low high)

-- where 18 comes
pub record Absent (w m v low high : ℕ) : Type 0 where
  pub granted : Passed (placed 0 (input_faults w m v low high))
  pub none : (n : ℕ) → Between (row w m v) low high n → ⊥
