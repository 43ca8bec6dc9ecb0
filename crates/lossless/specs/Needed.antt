-- The conditions without which the claims fail (02, request 10): for each a table that run accepts, which breaks it alone.
--   Runs t last        run accepts the table's records up to last, and answers that
--   ButOperands, ButKinds t last   of these records, all conditions hold but "every row is an operand at most once", or but "use only copy, not, .."
--   Imprecise t last   the first claim is false of what some record writes;   Blunt t n   the second is false of what record n writes
--   Needed             the tables
use Rattle.std.specs.Prelude.{◌≡◌, ℕ, suc, ◌<◌}
use Rattle.vectors.specs.Lists.{All}
use Rattle.checks.specs.Check.{done}
use Rattle.checks.specs.Table.{Table}
use Rattle.tables.specs.Run.{run_of}
use Rattle.lossless.specs.Conditions.{writes, ListedKinds, OperandsOnce, TargetsOnce, ReadsUnwritten, LosesNothing, NamedOnce, Unread, Unwritten, LastRecord}
use Rattle.lossless.specs.Claims.{PreciseRun, SharpRun}

abbrev pub Runs : Table → ℕ → Type 0
Runs t last = (run_of t 0 last).answer ≡ done last

abbrev pub ButOperands : Table → ℕ → Type 0
ButOperands t last = ListedKinds t 0 last × (OperandsOnce t 0 last → ⊥) × TargetsOnce t 0 last × ReadsUnwritten t 0 last

abbrev pub ButKinds : Table → ℕ → Type 0
ButKinds t last = (ListedKinds t 0 last → ⊥) × OperandsOnce t 0 last × TargetsOnce t 0 last × ReadsUnwritten t 0 last

abbrev pub Imprecise : Table → ℕ → Type 0
Imprecise t last = (i : ℕ) × (i < last) × (All (PreciseRun t 0 last) (writes t i) → ⊥)

abbrev pub Blunt : Table → ℕ → Type 0
Blunt t n = All (SharpRun t 0 (suc n)) (writes t n) → ⊥

-- operand_twice_in_one: broken by a record that names a row twice.  operand_twice_in_two: by two records, of which none does.  kind_outside: by a kind.
-- Without these both claims fail, the second though the last record meets its own conditions.
-- last_names_twice: but for "naming each only once".  last_reads_again: but for "reads rows that nothing has read".
pub record Needed : Type 0 where
  pub operand_twice_in_one : (t : Table) × Runs t 2 × ButOperands t 1 × Imprecise t 1 × LastRecord t 0 1 × Blunt t 1
  pub operand_twice_in_two : (t : Table) × Runs t 3 × ((i : ℕ) → i < 3 → NamedOnce t i) × ButOperands t 3 × Imprecise t 3 × ButOperands t 2 × LastRecord t 0 2 × Blunt t 2
  pub kind_outside : (t : Table) × Runs t 2 × ButKinds t 1 × Imprecise t 1 × LastRecord t 0 1 × Blunt t 1
  pub last_names_twice : (t : Table) × Runs t 1 × LosesNothing t 0 0 × (NamedOnce t 0 → ⊥) × Unread t 0 0 × Unwritten t 0 0 × Blunt t 0
  pub last_reads_again : (t : Table) × Runs t 2 × LosesNothing t 0 1 × NamedOnce t 1 × (Unread t 0 1 → ⊥) × Unwritten t 0 1 × Blunt t 1
