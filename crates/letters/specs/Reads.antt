-- What a field of a line tells.
--   reading test value   the value, where the test says that the field is in the grammar
use Rattle.std.specs.Prelude.{Bool, true, false, Option, Some, None}

abbrev pub reading : {A : Type 0} → Bool → A → Option A
reading true value = Some value
reading false value = None
