-- The bits that the pass visits: what holds of each bit of an open row holds along the list of them, and back. Assumes nothing.
use mathlib.Core.Path.{◌≡◌}
use mathlib.Core.Bool.{Bool, true, false, cond}
use mathlib.Core.List.{[]}
use Prim.Native.Nat.{ℕ, ◌<◌}
use native.Mathlib.Omega.{arith}
use lib.Dec.{T, eqb, eqb→eq}
use lib.ListN.{length, get_or}
use Rattle.bits.specs.Counted.{listed}
use Rattle.bits.proofs.Bools.{eq→eqb}
use Rattle.vectors.specs.Lists.{All}
use Rattle.vectors.proofs.ListParts.{listed-all, all_listed, rising-all, all-rising}
use Rattle.operations.specs.Record.{width_at}
use Rattle.checks.specs.Table.{Table}
use Rattle.conclusions.specs.Pass.{Position, position, bits_in, open_bits}

module _ (P : Position → Type 0) (t : Table) where
  pub row-all : (i : ℕ) → (get_or t.locks i 0 ≡ 0 → (k : ℕ) → k < width_at t.widths i → P (position i k)) → All P (bits_in t i)
  row-all i h = go (eqb (get_or t.locks i 0) 0) (eqb→eq (get_or t.locks i 0) 0)
    where
      go : (b : Bool) → (T b → get_or t.locks i 0 ≡ 0) → All P (cond b (listed (position i) 0 (width_at t.widths i)) [])
      go true e = listed-all P (position i) 0 (width_at t.widths i) (λ k l u. h (e tt) k (omega arith))
      go false e = tt

  pub open-all : ((i k : ℕ) → i < length t.widths → get_or t.locks i 0 ≡ 0 → k < width_at t.widths i → P (position i k)) → All P (open_bits t)
  open-all h = rising-all P (bits_in t) 0 (length t.widths) (λ i u. row-all i (λ o k m. h i k (omega arith) o m))

  row-found : (i : ℕ) → All P (bits_in t i) → get_or t.locks i 0 ≡ 0 → (k : ℕ) → k < width_at t.widths i → P (position i k)
  row-found i p o k h = go (eqb (get_or t.locks i 0) 0) (eq→eqb o) p
    where
      go : (b : Bool) → T b → All P (cond b (listed (position i) 0 (width_at t.widths i)) []) → P (position i k)
      go true u q = all_listed P (position i) 0 (width_at t.widths i) q k (omega arith) (omega arith)
      go false u q = absurd u

  pub open-found : All P (open_bits t) → (i k : ℕ) → i < length t.widths → get_or t.locks i 0 ≡ 0 → k < width_at t.widths i → P (position i k)
  open-found p i k h o m = row-found i (all-rising P (bits_in t) 0 (length t.widths) p i (omega arith) (omega arith)) o k m
