-- add, sub and mul by their names. Assumes nothing.
use mathlib.Core.Path.{◌≡◌, refl, sym, ap, ◌∙◌}
use mathlib.Core.List.{List}
use Prim.Native.Nat.{ℕ}
use Rattle.vectors.specs.Row.{Row}
use Rattle.operations.specs.Kind.{Kind}
use Rattle.operations.specs.Arithmetic.{op_add, op_sub, op_mul}
use Rattle.operations.specs.Kinds.{kind_of}
use Rattle.operations.specs.Result.{result_of}
use Rattle.witness_search.specs.declared.arithmetic.Arithmetic.{Arithmetic}
use Rattle.witness_search.specs.declared.arithmetic.Arithmetic.TheVariants.{Add, Sub, Mul}
use Rattle.witness_search.specs.Witness.{number_of}

module _ (kind : Arithmetic) (w : ℕ) (rows : List Row) where
  named : (j : Kind) (n : Arithmetic) → kind_of (number_of n) ≡ j → kind ≡ n → result_of j w 0 rows ≡ result_of (kind_of (number_of kind)) w 0 rows
  named j n own e = ap (λ (i : Kind). result_of i w 0 rows) (sym (ap (λ (m : Arithmetic). kind_of (number_of m)) e ∙ own))

  pub is-add : kind ≡ Add → result_of op_add w 0 rows ≡ result_of (kind_of (number_of kind)) w 0 rows
  unfolding kind_of
  is-add = named op_add Add refl

  pub is-sub : kind ≡ Sub → result_of op_sub w 0 rows ≡ result_of (kind_of (number_of kind)) w 0 rows
  unfolding kind_of
  is-sub = named op_sub Sub refl

  pub is_mul : kind ≡ Mul → result_of op_mul w 0 rows ≡ result_of (kind_of (number_of kind)) w 0 rows
  unfolding kind_of
  is_mul = named op_mul Mul refl
