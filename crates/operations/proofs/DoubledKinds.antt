-- The table of results for one row named twice has each kind to which operands named twice are one number, and no other. Assumes nothing.
use mathlib.Core.Path.{◌≡◌}
use mathlib.Core.Bool.{Bool, not, cond}
use mathlib.Core.List.{map}
use Prim.Native.Nat.{ℕ}
use lib.Dec.{T}
use Rattle.bits.specs.Below.{all_below}
use Rattle.operations.specs.Kinds.{kind_count, numbered, is_kind, kind_of}
use Rattle.operations.specs.Doubled.{doubled_table}
use Rattle.operations.proofs.Lookup.{kind-test}
use Rattle.operations.proofs.Sound.{same_test}

listed : ℕ → Bool
unfolding doubled_table
listed n = numbered n (map (λ d. d.kind) doubled_table)

all_listed : T (all_below kind_count (λ n. cond (kind_of n).correlated (listed n) (not (listed n))))
unfolding listed all_below kind_count kind_of
all_listed = tt

pub doubled-kinds : (n : ℕ) → T (is_kind n) → (kind_of n).correlated ≡ numbered n (map (λ d. d.kind) doubled_table)
unfolding listed
doubled-kinds n h = same_test (kind_of n).correlated (listed n) (kind-test (λ m. cond (kind_of m).correlated (listed m) (not (listed m))) all_listed n h)
