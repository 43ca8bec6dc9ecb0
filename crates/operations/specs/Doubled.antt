-- The results where the words a and b name one row, as a table over the kinds (02, request 2). The theorem is `doubled-results` of `results`.
--   Doubled        a kind, and its result for a row named twice: of the target's width, the parameter, the row, and the operand rows that follow
--   doubled k f    the entry that is made of these
--   doubled_table   one entry for each kind to which operands named twice are one number, numbers rising
--   DoubledIs d    the entry d is the best result over one number for both operands
use Rattle.std.specs.Prelude.{◌≡◌, true, List, [], ◌∷◌, ℕ}
use Rattle.vectors.specs.Row.{Row, row}
use Rattle.operations.specs.Kind.{Kind}
use Rattle.operations.specs.Bitwise.{op_and, op_or, op_xor}
use Rattle.operations.specs.Moves.{op_shl, op_concat}
use Rattle.operations.specs.Arithmetic.{op_add, op_sub, op_eq, op_ult, op_slt, op_ite}
use Rattle.operations.specs.Result.{result_of, result_once, Ready}

pub record Doubled : Type 0 where
  pub kind : Kind
  pub result : ℕ → ℕ → Row → List Row → Row

abbrev pub doubled : Kind → (ℕ → ℕ → Row → List Row → Row) → Doubled
doubled k f = record { kind = k; result = f }

unfoldable pub doubled_table : List Doubled
doubled_table =
    -- "and, or give the row"
    doubled op_and (λ wt p r rest. r)
    ∷ doubled op_or (λ wt p r rest. r)
    -- "xor, sub give zeros"
    ∷ doubled op_xor (λ wt p r rest. row wt 0 0)
    -- concat: the vector of independent operands
    ∷ doubled op_concat (λ wt p r rest. result_of op_concat wt p (r ∷ r ∷ rest))
    -- "add gives the row shifted left by one"
    ∷ doubled op_add (λ wt p r rest. result_of op_shl wt 1 (r ∷ []))
    ∷ doubled op_sub (λ wt p r rest. row wt 0 0)
    -- "eq gives 1; ult, slt give 0"
    ∷ doubled op_eq (λ wt p r rest. row wt 0 1)
    ∷ doubled op_ult (λ wt p r rest. row wt 0 0)
    ∷ doubled op_slt (λ wt p r rest. row wt 0 0)
    -- ite: the vector of independent operands
    ∷ doubled op_ite (λ wt p r rest. result_of op_ite wt p (r ∷ r ∷ rest))
    ∷ []

abbrev pub DoubledIs : Doubled → Type 0
DoubledIs d = (wt p : ℕ) (r : Row) (rest : List Row) → Ready d.kind wt p (r ∷ r ∷ rest) → result_once true d.kind wt p (r ∷ r ∷ rest) ≡ d.result wt p r rest
