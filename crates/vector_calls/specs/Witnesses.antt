-- Two inputs that make a bit unsettled (02, request 7): what witnesses refuses, and what holds of the pairs that it answers. Which such pairs is left open.
--   other_kind kind, bit_known kind w ma va mb vb k   the conditions of 6 and of 16;   kind_faults, known_faults   these as lists
--   operation_faults kind w ma va mb vb k   4, 5, 6 and 15
--   witness_checks kind w ma va mb vb k     what witnesses refuses, in order
--   Unsettles kind w ma va mb vb k zero one   the pair zero makes the bit 0, the pair one makes it 1
use Rattle.std.specs.Prelude.{Bool, not, List, [], ◌∷◌, ◌++◌, ℕ}
use Rattle.bits.specs.Bit.{is_set}
use Rattle.operations.specs.Kinds.{kind_of}
use Rattle.operations.specs.Faults.{Fault, fault}
use Rattle.operations.specs.Result.{result_of}
use Rattle.witness_search.specs.declared.Pair.{Pair}
use Rattle.witness_search.specs.Witness.{add_sub_mul, plain_of, Makes}
use Rattle.checks.specs.Check.{Check, placed}
use Rattle.checks.specs.Checks.{two_vector_faults, bit_faults}
use Rattle.vector_calls.specs.Calls.{both_rows}

-- "6 (any other kind)"
abbrev pub other_kind : ℕ → Bool
other_kind kind = not (add_sub_mul kind)

abbrev pub kind_faults : ℕ → List Fault
kind_faults kind = fault (other_kind kind) 6 ∷ []

-- "a bit that is known": its mask bit in the operation's best result is 0 (01, "Points and plain runs")
abbrev pub bit_known : ℕ → ℕ → ℕ → ℕ → ℕ → ℕ → ℕ → Bool
bit_known kind w ma va mb vb k = not (is_set (result_of (kind_of kind) w 0 (both_rows w ma va mb vb)).mask k)

abbrev pub known_faults : ℕ → ℕ → ℕ → ℕ → ℕ → ℕ → ℕ → List Fault
known_faults kind w ma va mb vb k = fault (bit_known kind w ma va mb vb k) 16 ∷ []

-- "Checks run as 4, 5, 6 (any other kind), 15."
abbrev pub operation_faults : ℕ → ℕ → ℕ → ℕ → ℕ → ℕ → ℕ → List Fault
operation_faults kind w ma va mb vb k = two_vector_faults w ma va mb vb ++ (kind_faults kind ++ bit_faults w k)

-- "It refuses a bit that is known as 16, after 15." "A call on bare vectors puts place 0 on every refusal." (02, request 6)
unfoldable pub witness_checks : ℕ → ℕ → ℕ → ℕ → ℕ → ℕ → ℕ → List Check
witness_checks kind w ma va mb vb k = placed 0 (operation_faults kind w ma va mb vb k) ++ placed 0 (known_faults kind w ma va mb vb k)

-- "two pairs of covered operands: the first makes the bit 0, the second 1; which such pairs is left open"
pub record Unsettles (kind w ma va mb vb k : ℕ) (zero one : Pair) : Type 0 where
  pub makes_zero : Makes (plain_of kind w) (both_rows w ma va mb vb) k 0 (zero.a ∷ zero.b ∷ [])
  pub makes_one : Makes (plain_of kind w) (both_rows w ma va mb vb) k 1 (one.a ∷ one.b ∷ [])
