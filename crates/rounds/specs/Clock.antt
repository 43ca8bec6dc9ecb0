-- Clock after clock until it settles (02, request 12): rounds, and plain clocks.
--   Pair, pair s n              a state row and its next row;   pair_at, pairs_of   pair i of two lent lists, and all of them
--   state_bits t ps              the state bits: the widths of the state rows in all
--   widened widths ran s p      the best vector covering the state row of p in the rows s and its next row in the rows ran
--   widen widths ps ran s       the rows s with each state row widened, all together
--   unchanged widths ps ran s   widening changes no state row
--   round_from t ps s            the round (02's term) that starts from the rows s: where the next one starts
--   is_last t ps s               the round that starts from the rows s changes no state row
--   round_start t ps m           where round m starts, rounds counting from 0
--   rounds_from t ps budget s    how many rounds there are from the rows s on, up to and with the first that changes no state row, or `budget`
--   rounds_of t ps               how many there are from the start;   last_start t ps   where the last one starts
--   latch ps ran ns             the numbers ns with each state row's replaced by its next row's in ran, all together
--   plain_clocks t ps inputs m   the numbers from which plain clock m (02's term) runs, where clock m is brought the numbers `inputs m`
use Rattle.std.specs.Prelude.{Bool, cond, List, ℕ, zero, suc, ◌+◌, ◌-◌, length, get_or}
use Rattle.bits.specs.Counted.{listed}
use Rattle.vectors.specs.Lists.{all_of, sum_of}
use Rattle.vectors.specs.Row.{Row}
use Rattle.vectors.specs.Hull.{join}
use Rattle.operations.specs.Record.{width_at}
use Rattle.checks.specs.Table.{State, row_at, Table, start_of, record_count}
use Rattle.steps.specs.Step.{put_all, set_all}
use Rattle.tables.specs.Run.{full_run, plain_run}
use Rattle.orders.specs.Order.{equal_row}

-- "Lent pairs name a state row and its next row."
pub record Pair : Type 0 where
  pub state : ℕ
  pub next : ℕ

abbrev pub pair : ℕ → ℕ → Pair
pair s n = record { state = s; next = n }

abbrev pub pair_at : List ℕ → List ℕ → ℕ → Pair
pair_at states nexts i = pair (get_or states i 0) (get_or nexts i 0)

unfoldable pub pairs_of : List ℕ → List ℕ → List Pair
pairs_of states nexts = listed (pair_at states nexts) 0 (length states)

abbrev pub state_bits : Table → List Pair → ℕ
state_bits t ps = sum_of (λ p. width_at t.widths p.state) ps

-- ---- rounds

abbrev pub widened : List ℕ → State → State → Pair → Row
widened widths ran s p = join (row_at widths s p.state) (row_at widths ran p.next)

-- "then widens each state row, all together, to the best vector covering it and its next row"
unfoldable pub widen : List ℕ → List Pair → State → State → State
widen widths ps ran s = put_all (λ p. p.state) (widened widths ran s) ps s

unfoldable pub unchanged : List ℕ → List Pair → State → State → Bool
unchanged widths ps ran s = all_of (λ p. equal_row (widened widths ran s p) (row_at widths s p.state)) ps

-- "A round starts non-state rows from their start, runs all records, then widens": the rows s have all but the state rows from their start,
-- and so have the rows after it.
abbrev pub round_from : Table → List Pair → State → State
round_from t ps s = widen t.widths ps (full_run t s) s

-- "Rounds end when no state row changes."
unfoldable pub is_last : Table → List Pair → State → Bool
is_last t ps s = unchanged t.widths ps (full_run t s) s

unfoldable pub round_start : Table → List Pair → ℕ → State
round_start t ps zero = start_of t
round_start t ps (suc m) = round_from t ps (round_start t ps m)

unfoldable pub rounds_from : Table → List Pair → ℕ → State → ℕ
rounds_from t ps zero s = 0
rounds_from t ps (suc budget) s = cond (is_last t ps s) 1 (suc (rounds_from t ps budget (round_from t ps s)))

-- "the number of rounds, is at most the state bits plus one"
unfoldable pub rounds_of : Table → List Pair → ℕ
rounds_of t ps = rounds_from t ps (state_bits t ps + 1) (start_of t)

abbrev pub last_start : Table → List Pair → State
last_start t ps = round_start t ps (rounds_of t ps - 1)

-- ---- plain clocks

-- "then each next row's number goes to its state row, all together"
unfoldable pub latch : List Pair → List ℕ → List ℕ → List ℕ
latch ps ran ns = set_all (λ p. p.state) (λ p. get_or ran p.next 0) ps ns

-- "A plain clock is a full plain run from the state's numbers and any numbers that the other start rows cover": of what a clock is brought the numbers of
-- state rows count at the first alone.
unfoldable pub plain_clocks : Table → List Pair → (ℕ → List ℕ) → ℕ → List ℕ
plain_clocks t ps inputs zero = inputs zero
plain_clocks t ps inputs (suc m) = latch ps (plain_run t 0 (record_count t) (plain_clocks t ps inputs m)) (inputs (suc m))
