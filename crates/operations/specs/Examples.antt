-- The starred worked examples of 01, as one table. A row is given by width, mask and value: X0 is row 2 0b10 0b00.
--   Example     a kind, its operand rows, and the result;   example k rows r   the one that is made of these
--   starred     the twelve results marked * in 01, in its order
--   computed    the results that `best` and the plain numbers give;  stated   the results that 01 gives
use Rattle.std.specs.Prelude.{List, [], ◌∷◌, map}
use Rattle.vectors.specs.Row.{Row, row}
use Rattle.operations.specs.Kind.{Kind}
use Rattle.operations.specs.Arithmetic.{op_add, op_sub, op_neg, op_mul, op_eq, op_ult, op_slt, op_ite}
use Rattle.operations.specs.Result.{result_of}

pub record Example : Type 0 where
  pub kind : Kind
  pub operands : List Row
  pub result : Row

abbrev pub example : Kind → List Row → Row → Example
example k rows r = record { kind = k; operands = rows; result = r }

unfoldable pub starred : List Example
starred =
    -- add X0 + 11 = X1; 0X0 + 011 = XX1
    example op_add (row 2 0b10 0b00 ∷ row 2 0b00 0b11 ∷ []) (row 2 0b10 0b01)
    ∷ example op_add (row 3 0b010 0b000 ∷ row 3 0b000 0b011 ∷ []) (row 3 0b110 0b001)
    -- mul 011 · 0X1 = 0X1; 0011 · 00X1 = X0X1
    ∷ example op_mul (row 3 0b000 0b011 ∷ row 3 0b010 0b001 ∷ []) (row 3 0b010 0b001)
    ∷ example op_mul (row 4 0b0000 0b0011 ∷ row 4 0b0010 0b0001 ∷ []) (row 4 0b1010 0b0001)
    -- mul X0 · X0 = 00; 0X0 · 0X0 = X00
    ∷ example op_mul (row 2 0b10 0b00 ∷ row 2 0b10 0b00 ∷ []) (row 2 0b00 0b00)
    ∷ example op_mul (row 3 0b010 0b000 ∷ row 3 0b010 0b000 ∷ []) (row 3 0b100 0b000)
    -- sub 0X - 01 = XX; neg X1 = X1
    ∷ example op_sub (row 2 0b01 0b00 ∷ row 2 0b00 0b01 ∷ []) (row 2 0b11 0b00)
    ∷ example op_neg (row 2 0b10 0b01 ∷ []) (row 2 0b10 0b01)
    -- ult 0X, 10 = 1; slt 0X, 10 = 0
    ∷ example op_ult (row 2 0b01 0b00 ∷ row 2 0b00 0b10 ∷ []) (row 1 0b0 0b1)
    ∷ example op_slt (row 2 0b01 0b00 ∷ row 2 0b00 0b10 ∷ []) (row 1 0b0 0b0)
    -- eq X1, X0 = 0; ite X, 01, 11 = X1 (the condition is the last operand)
    ∷ example op_eq (row 2 0b10 0b01 ∷ row 2 0b10 0b00 ∷ []) (row 1 0b0 0b0)
    ∷ example op_ite (row 2 0b00 0b01 ∷ row 2 0b00 0b11 ∷ row 1 0b1 0b0 ∷ []) (row 2 0b10 0b01)
    ∷ []

unfoldable pub computed : List Row
computed = map (λ e. result_of e.kind e.result.width 0 e.operands) starred

unfoldable pub stated : List Row
stated = map (λ e. e.result) starred
