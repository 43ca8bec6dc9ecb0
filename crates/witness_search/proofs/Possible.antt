-- What a bit of a best result leaves possible is what some choice of covered operands gives. Assumes nothing.
use mathlib.Core.Path.{◌≡◌, refl, ap₂}
use mathlib.Core.Bool.{Bool, true, false, not, cond, ◌&&◌}
use mathlib.Core.Logic.{◌⊎◌, inl, inr}
use mathlib.Core.List.{List}
use Prim.Native.Nat.{ℕ, zero, suc, ◌<◌}
use native.Mathlib.Omega.{arith}
use lib.Dec.{T}
use Rattle.bits.proofs.Bits.{bit-cases, bit-number}
use Rattle.bits.proofs.Numbers.{is_set-digit}
use Rattle.vectors.specs.Lists.{All}
use Rattle.vectors.specs.Row.{Row, WellFormed}
use Rattle.vectors.specs.Best.{may, best}
use Rattle.vectors.specs.declared.OutputBit.{OutputBit}
use Rattle.vectors.specs.declared.OutputBit.TheVariants.{Zero, One, Unknown}
use Rattle.vectors.specs.OutputBits.{output_bit}
use Rattle.vectors.proofs.Choices.{some-chosen}
use Rattle.vectors.proofs.Bests.{may-intro}
use Rattle.witness_search.specs.Search.{may_be}

-- x: 0 is possible; y: 1 is
told : Bool → Bool → OutputBit
told x y = cond (x && y) Unknown (cond (y && not x) One Zero)

told-zero : (x y : Bool) → T x ⊎ T y → may_be (told x y) 0 ≡ x
unfolding told
told-zero true true h = refl
told-zero true false h = refl
told-zero false true h = refl
told-zero false false h = elim h [ inl t ↦ absurd t | inr t ↦ absurd t ]

told-one : (x y : Bool) → T x ⊎ T y → may_be (told x y) 1 ≡ y
unfolding told
told-one true true h = refl
told-one true false h = refl
told-one false true h = refl
told-one false false h = elim h [ inl t ↦ absurd t | inr t ↦ absurd t ]

module _ (w : ℕ) (f : List ℕ → ℕ) (rows : List Row) (F : All WellFormed rows) (k : ℕ) (h : k < w) where
  best-told : output_bit (best w f rows) k ≡ told (may f rows 0 k) (may f rows 1 k)
  unfolding best output_bit told
  best-told =
      ap₂ (λ (m v : Bool). cond m Unknown (cond v One Zero))
      (is_set-digit (best w f rows).mask k (may f rows 0 k && may f rows 1 k) (bit-number w (λ j. may f rows 0 j && may f rows 1 j) k h))
      (is_set-digit (best w f rows).value k (may f rows 1 k && not (may f rows 0 k)) (bit-number w (λ j. may f rows 1 j && not (may f rows 0 j)) k h))

  one-of-both : T (may f rows 0 k) ⊎ T (may f rows 1 k)
  one-of-both =
      let (ns, c) = some-chosen rows F in
      elim (bit-cases (f ns) k) [ inl e ↦ inl (may-intro w f rows 0 k ns c e) | inr e ↦ inr (may-intro w f rows 1 k ns c e) ]

  pub told-may : (d : ℕ) → d < 2 → may_be (output_bit (best w f rows) k) d ≡ may f rows d k
  told-may zero l = rw best-told (told-zero (may f rows 0 k) (may f rows 1 k) one-of-both)
  told-may (suc zero) l = rw best-told (told-one (may f rows 0 k) (may f rows 1 k) one-of-both)
  told-may (suc (suc d)) l = absurd (omega arith)
