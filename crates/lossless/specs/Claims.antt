-- What holds where nothing is lost (02, request 10). A start is one plain number a row, each covered by its start row; a plain run goes from it (01's term).
--   Precise widths s run u i   of the start rows s, the plain runs and the rows u left: row i covers precisely the numbers that plain runs give it
--   Sharp widths s run u i     of the same: each bit of row i is known exactly if all starts agree on it
--   rows_after t first last     the rows after the stretch, of a table of any length; where run accepts it, the rows that it leaves
--   PreciseAfter, SharpAfter t first last i   the claims of these rows;   PreciseRun, SharpRun   of the rows that run leaves
use Rattle.std.specs.Prelude.{◌≡◌, ◌↔◌, List, ℕ, ◌-◌, ◌<◌, get_or}
use Rattle.bits.specs.Bit.{bit}
use Rattle.vectors.specs.Row.{Covers, KnownAs}
use Rattle.operations.specs.Record.{width_at}
use Rattle.checks.specs.Table.{State, row_at, Table, start_of}
use Rattle.steps.specs.Step.{after}
use Rattle.tables.specs.Run.{program_of, point_rows, plain_run}
use Rattle.steps.specs.States.{CoversState}

-- "each written row covers precisely the numbers that plain runs from covered starts give it"
abbrev pub Precise : List ℕ → State → (List ℕ → List ℕ) → State → ℕ → Type 0
Precise widths s run u i = (m : ℕ) → Covers (row_at widths u i) m ↔ ((ns : List ℕ) × CoversState widths s ns × (get_or (run ns) i 0 ≡ m))

-- "each of its bits is known exactly if all starts agree on it": known_iff.  And it is known as what they agree on: known_as.
pub record Sharp (widths : List ℕ) (s : State) (run : List ℕ → List ℕ) (u : State) (i : ℕ) : Type 0 where
  pub known_as : (k : ℕ) → k < width_at widths i → (b : ℕ) → b < 2 → KnownAs (row_at widths u i) k b ↔ ((ns : List ℕ) → CoversState widths s ns → bit (get_or (run ns) i 0) k ≡ b)
  pub known_iff : (k : ℕ) → k < width_at widths i → (bit (row_at widths u i).mask k ≡ 0)
      ↔ ((ns ms : List ℕ) → CoversState widths s ns → CoversState widths s ms → bit (get_or (run ns) i 0) k ≡ bit (get_or (run ms) i 0) k)

-- ---- of a stretch

abbrev pub rows_after : Table → ℕ → ℕ → State
rows_after t first last = after (program_of t) first (last - first) (start_of t)

abbrev pub PreciseAfter : Table → ℕ → ℕ → ℕ → Type 0
PreciseAfter t first last i = Precise t.widths (start_of t) (plain_run t first last) (rows_after t first last) i

abbrev pub SharpAfter : Table → ℕ → ℕ → ℕ → Type 0
SharpAfter t first last i = Sharp t.widths (start_of t) (plain_run t first last) (rows_after t first last) i

abbrev pub PreciseRun : Table → ℕ → ℕ → ℕ → Type 0
PreciseRun t first last i = Precise t.widths (start_of t) (plain_run t first last) (point_rows t first last) i

abbrev pub SharpRun : Table → ℕ → ℕ → ℕ → Type 0
SharpRun t first last i = Sharp t.widths (start_of t) (plain_run t first last) (point_rows t first last) i
