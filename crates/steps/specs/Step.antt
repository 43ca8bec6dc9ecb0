-- What records do to the rows, and to the numbers of a plain run (01, "Records", "Calls" and "Points and plain runs").
--   put s i r              the state with the vector of r in row i
--   put_all target row l s  of each element of l its row put at its target, first element first;  set_all  the same for numbers
--   operand_rows, operand_numbers   what an effect reads;   result   the best vector for it
--   step widths es s       a record with the effects es on vectors;   plain_step es ns   on plain numbers
--   Program                widths, the effects of each record, and the number of records
--   after P first j s      the rows after the j records from `first` on: at point first + j, 01's term
--   plain_after             01's plain run: the numbers after these records
use Rattle.std.specs.Prelude.{List, [], ◌∷◌, map, ℕ, zero, suc, ◌+◌, get_or, set}
use Rattle.vectors.specs.Row.{Row}
use Rattle.vectors.specs.Best.{best}
use Rattle.operations.specs.Record.{Effect, width_at}
use Rattle.checks.specs.Table.{State, row_at}

abbrev pub put : State → ℕ → Row → State
put s i r = record { masks = set s.masks i r.mask; values = set s.values i r.value }

abbrev pub put_all : {A : Type 0} → (A → ℕ) → (A → Row) → List A → State → State
put_all target row [] s = s
put_all target row (a ∷ l) s = put_all target row l (put s (target a) (row a))

abbrev pub set_all : {A : Type 0} → (A → ℕ) → (A → ℕ) → List A → List ℕ → List ℕ
set_all target number [] ns = ns
set_all target number (a ∷ l) ns = set_all target number l (set ns (target a) (number a))

abbrev pub operand_rows : List ℕ → State → Effect → List Row
operand_rows widths s e = map (row_at widths s) e.operands

-- "a row named twice gives its one number twice"
abbrev pub operand_numbers : List ℕ → Effect → List ℕ
operand_numbers ns e = map (λ i. get_or ns i 0) e.operands

abbrev pub result : List ℕ → State → Effect → Row
result widths s e = best (width_at widths e.target) e.value (operand_rows widths s e)

-- "All operands are read before the target is written": each result is of the rows before the record, of each cell of a store too (02, request 11).
unfoldable pub step : List ℕ → List Effect → State → State
step widths es s = put_all (λ e. e.target) (result widths s) es s

-- "A record replaces the number of row t alone, from the numbers before it"; "a store replaces that cell's number alone" (02, request 11)
unfoldable pub plain_step : List Effect → List ℕ → List ℕ
plain_step es ns = set_all (λ e. e.target) (λ e. e.value (operand_numbers ns e)) es ns

pub record Program : Type 0 where
  pub widths : List ℕ
  pub effects : ℕ → List Effect
  pub count : ℕ

-- "Each record gets the rows that the one before it left."
unfoldable pub after : Program → ℕ → ℕ → State → State
after P first zero s = s
after P first (suc j) s = step P.widths (P.effects (first + j)) (after P first j s)

unfoldable pub plain_after : Program → ℕ → ℕ → List ℕ → List ℕ
plain_after P first zero ns = ns
plain_after P first (suc j) ns = plain_step (P.effects (first + j)) (plain_after P first j ns)
