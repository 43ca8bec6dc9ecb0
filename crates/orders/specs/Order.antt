-- The ordering of two whole states, row by row (02, request 12). A state is 02's term for the masks and values of all rows.
--   equal_row p q, inside_row p q       tests of two vectors of one width: they are one; p lies inside q
--   equal_states widths p q, inside_states widths p q   the same of every row
--   order_of widths p q                the first equal to, inside or around the second, or none of these
--   as_table widths s                  a state as a table without locks and records, of which the conditions of the checks speak
--   compare_shape_faults, compare_row_faults   1 and 2 of the five slices; 4 and 5 of row i
--   compare_checks widths p q          what compare_states refuses, in order;   compare_of widths p q   what it answers
--   OrderMeans widths p q o           what each answer says
use Rattle.std.specs.Prelude.{◌≡◌, Bool, cond, ◌&&◌, List, [], ◌∷◌, ◌++◌, ℕ, eqb, length, get_or}
use Rattle.bits.specs.Below.{all_below}
use Rattle.bits.specs.Counted.{rising}
use Rattle.vectors.specs.Row.{Row}
use Rattle.vectors.specs.Hull.{join}
use Rattle.operations.specs.Record.{width_at}
use Rattle.operations.specs.Faults.{Fault, fault}
use Rattle.checks.specs.Check.{Answer, Check, verdict, placed}
use Rattle.checks.specs.Table.{State, row_at, Table}
use Rattle.checks.specs.Checks.{no_rows, too_many_rows, masks_differ, values_differ, two_vector_faults}
use Rattle.checks.specs.Model.{lent}
use Rattle.steps.specs.States.{InsideState}
use Rattle.orders.specs.declared.Order.{Order}
use Rattle.orders.specs.declared.Order.TheVariants.{Equal, Inside, Around, NoneOfThese}

abbrev pub equal_row : Row → Row → Bool
equal_row p q = eqb p.mask q.mask && eqb p.value q.value

-- "Vector p lies inside q if q covers all that p covers" (01): the best vector covering both is then q
abbrev pub inside_row : Row → Row → Bool
inside_row p q = equal_row (join q p) q

unfoldable pub equal_states : List ℕ → State → State → Bool
equal_states widths p q = all_below (length widths) (λ i. equal_row (row_at widths p i) (row_at widths q i))

unfoldable pub inside_states : List ℕ → State → State → Bool
inside_states widths p q = all_below (length widths) (λ i. inside_row (row_at widths p i) (row_at widths q i))

-- "row by row: the first equal to, inside or around the second, or none of these"
unfoldable pub order_of : List ℕ → State → State → Order
order_of widths p q = cond (equal_states widths p q) Equal (cond (inside_states widths p q) Inside (cond (inside_states widths q p) Around NoneOfThese))

-- ---- the call: "checked by 1, 2, 4 and 5, rows rising, the first state's row before the second's, the place of 4 and 5 being the row"

abbrev pub as_table : List ℕ → State → Table
as_table widths s = lent widths [] s.masks s.values []

abbrev pub compare_shape_faults : List ℕ → State → State → List Fault
compare_shape_faults widths p q =
    fault (no_rows (as_table widths p)) 1
    ∷ fault (too_many_rows (as_table widths p)) 1
    ∷ fault (masks_differ (as_table widths p)) 2
    ∷ fault (values_differ (as_table widths p)) 2
    ∷ fault (masks_differ (as_table widths q)) 2
    ∷ fault (values_differ (as_table widths q)) 2
    ∷ []

abbrev pub compare_row_faults : List ℕ → State → State → ℕ → List Fault
compare_row_faults widths p q i = two_vector_faults (width_at widths i) (get_or p.masks i 0) (get_or p.values i 0) (get_or q.masks i 0) (get_or q.values i 0)

abbrev pub compare_row_checks : List ℕ → State → State → List Check
compare_row_checks widths p q = rising (λ i. placed i (compare_row_faults widths p q i)) 0 (length widths)

unfoldable pub compare_checks : List ℕ → State → State → List Check
compare_checks widths p q = placed 0 (compare_shape_faults widths p q) ++ compare_row_checks widths p q

unfoldable pub compare_of : List ℕ → State → State → Answer Order
compare_of widths p q = verdict (compare_checks widths p q) (order_of widths p q)

-- ---- the claim: exactly one of the four holds of two states that are accepted

abbrev pub OrderMeans : List ℕ → State → State → Order → Type 0
OrderMeans widths p q Equal = p ≡ q
OrderMeans widths p q Inside = InsideState widths p q × ¬ InsideState widths q p
OrderMeans widths p q Around = ¬ InsideState widths p q × InsideState widths q p
OrderMeans widths p q NoneOfThese = ¬ InsideState widths p q × ¬ InsideState widths q p
