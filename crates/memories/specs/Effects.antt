-- A load and a store as effects, under the code's names. Cited by contracts of inner functions alone: that they are the effects of such records is proved.
--   load_effect t a base n     a load
--   store_effect a d base i    what a store does to cell i;   store_effects a d base n   a store
--   SpanFits widths a like base n   what passing checks 7 to 9 gives a load and a store; like: the row whose width the cells have, a load's target or a store's data
use Rattle.std.specs.Prelude.{◌≡◌, List, [], ◌∷◌, ℕ, ◌+◌, ◌≤◌, ◌<◌, length}
use Rattle.bits.specs.Counted.{listed}
use Rattle.operations.specs.Memory.{span, load_number, store_number}
use Rattle.operations.specs.Record.{Effect, width_at}

abbrev pub load_effect : ℕ → ℕ → ℕ → ℕ → Effect
load_effect t a base n = record { target = t; operands = a ∷ span base n; value = load_number }

abbrev pub store_effect : ℕ → ℕ → ℕ → ℕ → Effect
store_effect a d base i = record { target = base + i; operands = a ∷ d ∷ (base + i) ∷ []; value = store_number i }

unfoldable pub store_effects : ℕ → ℕ → ℕ → ℕ → List Effect
store_effects a d base n = listed (store_effect a d base) 0 n

pub record SpanFits (widths : List ℕ) (a like base n : ℕ) : Type 0 where
  pub address_in : a < length widths
  pub like_in : like < length widths
  pub span_in : base + n ≤ length widths
  pub cell_width : (i : ℕ) → i < n → width_at widths (base + i) ≡ width_at widths like
