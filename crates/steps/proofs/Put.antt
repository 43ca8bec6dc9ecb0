-- One row put: what it leaves. Assumes nothing.
use mathlib.Core.Path.{◌≡◌, refl, sym, ◌∙◌, subst, subst₂}
use mathlib.Core.Logic.{◌≢◌}
use mathlib.Core.List.{List}
use Prim.Native.Nat.{ℕ, ◌<◌}
use native.Mathlib.Decide.{ℕ_discrete}
use native.Mathlib.Omega.{arith}
use lib.ListN.{length, get_or, set, length-set}
use lib.Seq.{get_or-set_same, get_or-set_other}
use Rattle.vectors.specs.Row.{Row, WellFormed, Covers, Inside}
use Rattle.operations.specs.Record.{width_at}
use Rattle.checks.specs.Table.{State, row_at}
use Rattle.steps.specs.Step.{put}
use Rattle.steps.specs.States.{StateFits, CoversState, InsideState}

module _ (widths : List ℕ) where
  pub row_same : (s : State) → StateFits widths s → (i : ℕ) (r : Row) → r.width ≡ width_at widths i → (j : ℕ) → j ≡ i → j < length widths → row_at widths (put s i r) j ≡ r
  row_same s S i r w j e h = λ ι. record { width = width_is ι; mask = mask_is ι; value = value_is ι }
    where
      width_is : width_at widths j ≡ r.width
      width_is = rw e (sym w)

      mask_is : get_or (set s.masks i r.mask) j 0 ≡ r.mask
      mask_is = rw e (get_or-set_same s.masks i r.mask 0 (let l = S.masks_length in omega arith))

      value_is : get_or (set s.values i r.value) j 0 ≡ r.value
      value_is = rw e (get_or-set_same s.values i r.value 0 (let l = S.values_length in omega arith))

  pub row_other : (s : State) (i : ℕ) (r : Row) (j : ℕ) → j ≢ i → row_at widths (put s i r) j ≡ row_at widths s j
  row_other s i r j d =
      λ ι. record {
        width = width_at widths j;
        mask = get_or-set_other s.masks i j r.mask 0 d ι;
        value = get_or-set_other s.values i j r.value 0 d ι;
      }

  -- a property of two rows, or of a row and a number, after a put on both sides
  pub fits-put : (s : State) → StateFits widths s → (i : ℕ) (r : Row) → r.width ≡ width_at widths i → WellFormed r → StateFits widths (put s i r)
  fits-put s S i r w f =
      record {
        masks_length = length-set s.masks i r.mask ∙ S.masks_length;
        values_length = length-set s.values i r.value ∙ S.values_length;
        formed = λ j h. elim (ℕ_discrete j i) [
          | yes e ↦ subst WellFormed (sym (row_same s S i r w j e h)) f
          | no d ↦ subst WellFormed (sym (row_other s i r j d)) (S.formed j h)
        ];
      }

  -- a number put, that its row covers, among numbers that the other rows cover
  pub covers-set : (s : State) (ns : List ℕ) (i n : ℕ) → length ns ≡ length widths → (i < length widths → Covers (row_at widths s i) n)
      → ((j : ℕ) → j < length widths → j ≢ i → Covers (row_at widths s j) (get_or ns j 0)) → CoversState widths s (set ns i n)
  covers-set s ns i n c at others =
      record {
        count = length-set ns i n ∙ c;
        covers = λ j h. elim (ℕ_discrete j i) [
          | yes e ↦ subst₂ (λ (k m : ℕ). Covers (row_at widths s k) m) (sym e) (sym (number_same j e h)) (at (rw e at h))
          | no d ↦ subst (Covers (row_at widths s j)) (sym (get_or-set_other ns i j n 0 d)) (others j h d)
        ];
      }
    where
      number_same : (j : ℕ) → j ≡ i → j < length widths → get_or (set ns i n) j 0 ≡ n
      number_same j e h = rw e (get_or-set_same ns i n 0 (omega arith))

  pub covers-put : (s : State) → StateFits widths s → (ns : List ℕ) → CoversState widths s ns → (i : ℕ) (r : Row) (n : ℕ) → r.width ≡ width_at widths i → Covers r n → CoversState widths (put s i r) (set ns i n)
  covers-put s S ns C i r n w c =
      covers-set (put s i r) ns i n C.count (λ h. subst (λ (q : Row). Covers q n) (sym (row_same s S i r w i refl h)) c)
      (λ j h d. subst (λ (q : Row). Covers q (get_or ns j 0)) (sym (row_other s i r j d)) (C.covers j h))

  pub inside-put : (s t : State) → StateFits widths s → StateFits widths t → InsideState widths s t → (i : ℕ) (p q : Row) → p.width ≡ width_at widths i → q.width ≡ width_at widths i → Inside p q
      → InsideState widths (put s i p) (put t i q)
  inside-put s t S U I i p q wp wq c j h =
      elim (ℕ_discrete j i) [
        | yes e ↦ subst₂ Inside (sym (row_same s S i p wp j e h)) (sym (row_same t U i q wq j e h)) c
        | no d ↦ subst₂ Inside (sym (row_other s i p j d)) (sym (row_other t i q j d)) (I j h)
      ]
