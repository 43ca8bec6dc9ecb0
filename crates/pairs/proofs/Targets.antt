-- Which rows of a span are a given row: tests by its two ends. Assumes nothing.
use mathlib.Core.Path.{◌≡◌, sym, ◌∙◌}
use mathlib.Core.Bool.{Bool, true, false, not}
use Prim.Native.Nat.{ℕ, ◌+◌, ◌≤◌, ◌<◌}
use native.Mathlib.Decide.{dec_lt}
use native.Mathlib.Omega.{arith}
use borrow.Author.Tests.{lt-ltb, le-ltb}
use lib.Dec.{T, T_not, not_T, eqb, ltb, eqb_refl, eqb→eq}
use lib.Ieee.Bits.{is_true, is_false}
use Rattle.bits.proofs.Bools.{T-cases}
use Rattle.vectors.specs.Lists.{some_of}
use Rattle.vectors.proofs.Lists.{none-all, all_none}
use Rattle.vectors.proofs.ListParts.{listed-all, all_listed}
use Rattle.operations.specs.Memory.{span}

module _ (base n i : ℕ) where
  abbrev among : Bool
  among = some_of (λ j. eqb j i) (span base n)

  outside : ((j : ℕ) → base ≤ j → j < base + n → j ≡ i → ⊥) → among ≡ false
  outside d = is_false among (all_none (λ j. eqb j i) (span base n) (listed-all (λ j. T (not (eqb j i))) (λ j. j) base n (λ j l u. not_T (eqb j i) (λ t. d j l u (eqb→eq j i t)))))

  inside : base ≤ i → i < base + n → among ≡ true
  inside l u =
      is_true among (T-cases among (λ t. t)
      (λ m. absurd (T_not (eqb i i) (all_listed (λ j. T (not (eqb j i))) (λ j. j) base n (none-all (λ j. eqb j i) (span base n) m) i l u) (eqb_refl i))))

  pub before-span : i < base → among ≡ false
  before-span h = outside (λ j l u e. omega arith)

  pub from-base : base ≤ i → ltb i (base + n) ≡ among
  from-base l =
      elim (dec_lt i (base + n)) [
        | yes u ↦ lt-ltb i (base + n) u ∙ sym (inside l u)
        | no h ↦ le-ltb i (base + n) (omega arith) ∙ sym (outside (λ j b u e. omega arith))
      ]
