-- Two plain operands that make a bit of an operation's result 0, or 1 (02, request 7).
--   add_sub_mul kind      the kind is add, sub or mul
--   number_of k           the number of one of these that the code has by name
--   NamesArithmetic kind r   r is that name, or an error where the kind is another
--   plain_of kind w      the plain number of that kind over two operands of width w, by their numbers
--   Makes f rows k b ns   ns is a choice of operands that the rows cover, and bit k of f's result on it is b
use Rattle.std.specs.Prelude.{◌≡◌, Bool, not, ◌||◌, List, [], ◌∷◌, ℕ, eqb, T, Result, MatchResult}
use Rattle.bits.specs.Bit.{bit}
use Rattle.vectors.specs.Row.{Row}
use Rattle.vectors.specs.Choice.{Chosen}
use Rattle.operations.specs.Kinds.{kind_of}
use Rattle.witness_search.specs.declared.arithmetic.Arithmetic.{Arithmetic}
use Rattle.witness_search.specs.declared.arithmetic.Arithmetic.TheVariants.{Add, Sub, Mul}
use Rattle.witness_search.specs.declared.arithmetic.OtherKind.{OtherKind}

-- "an add, sub or mul": by the number of the kind
abbrev pub add_sub_mul : ℕ → Bool
add_sub_mul kind = eqb kind 13 || (eqb kind 14 || eqb kind 16)

abbrev pub number_of : Arithmetic → ℕ
number_of Add = 13
number_of Sub = 14
number_of Mul = 16

abbrev pub NamesArithmetic : ℕ → Result Arithmetic OtherKind → Type 0
NamesArithmetic kind r = MatchResult r (λ k. T (add_sub_mul kind) × (number_of k ≡ kind)) (λ e. T (not (add_sub_mul kind)) × (e.0 ≡ kind))

-- the number of the target in a plain run (01, "Points and plain runs")
abbrev pub plain_of : ℕ → ℕ → List ℕ → ℕ
plain_of kind w = (kind_of kind).plain w (w ∷ w ∷ []) 0

-- "covered operands" that make the bit 0, or 1
pub record Makes (f : List ℕ → ℕ) (rows : List Row) (k b : ℕ) (ns : List ℕ) : Type 0 where
  pub covered : Chosen rows ns
  pub makes : bit (f ns) k ≡ b
