-- What range_in gives is the best vector, the smallest and the largest, and no other answer is; none is said exactly where there is no such number. Assumes nothing.
use mathlib.Core.Path.{◌≡◌, refl, ap, ◌∙◌}
use mathlib.Core.Bool.{Bool, true, false, not, cond}
use mathlib.Core.Logic.{◌↔◌}
use Prim.Native.Nat.{ℕ, ◌^◌}
use native.Mathlib.Omega.{arith}
use lib.Dec.{T, T_not, not_T, leb, leb→le, le→leb}
use Rattle.bits.specs.Below.{some_below}
use Rattle.bits.proofs.Below.{some_below-intro, some_below-elim}
use Rattle.bits.proofs.Bools.{T_and, T-left, T-right, T_not-not}
use Rattle.vectors.specs.Row.{Row, row}
use Rattle.vectors.specs.Choice.{coversb}
use Rattle.vectors.specs.Best.{best_of}
use Rattle.vectors.proofs.Choices.{covers-of-test, test-of-covers}
use Rattle.vectors.proofs.Hulls.{Inhabited, hull-unique}
use Rattle.vectors.proofs.Bests.{best_of-hull}
use Rattle.range_search.specs.declared.Range.{Range}
use Rattle.std.specs.Prelude.{Option, Some, None}
use Rattle.range_search.specs.Range.{Between, betweenb, none_between, range_in, in_range_of, Ranged}
use Rattle.range_search.proofs.Extremes.{Passing, smallest-below, largest-below}

module _ (r : Row) (low high : ℕ) where
  between-of-test : (n : ℕ) → T (betweenb r low high n) → Between r low high n
  unfolding betweenb
  between-of-test n t =
      let u = T-right (coversb r n) _ t in
      record {
        covered = covers-of-test r n (T-left (coversb r n) _ t);
        from = leb→le low n (T-left (leb low n) _ u);
        to = leb→le n high (T-right (leb low n) _ u);
      }

  test-of-between : (n : ℕ) → Between r low high n → T (betweenb r low high n)
  unfolding betweenb
  test-of-between n b = T_and (coversb r n) _ (test-of-covers r n b.covered) (T_and (leb low n) _ (le→leb low n b.from) (le→leb n high b.to))

  passing : (n : ℕ) → Between r low high n → Passing (2 ^ r.width) (betweenb r low high) n
  passing n b = record { below = b.covered.below; passes = test-of-between n b }

  pub none-iff : T (none_between r low high) ↔ ((n : ℕ) → Between r low high n → ⊥)
  unfolding none_between
  none-iff =
      let some = some_below (2 ^ r.width) (betweenb r low high) in (
        (λ t n b. T_not some t (some_below-intro (2 ^ r.width) (betweenb r low high) n b.covered.below (test-of-between n b))),
        (λ h. not_T some (λ t. let (n, l, u) = some_below-elim (2 ^ r.width) (betweenb r low high) t in h n (between-of-test n u))),
      )

  pub some-between : T (not (none_between r low high)) → Inhabited (Between r low high)
  unfolding none_between
  some-between t =
      let (n, l, u) = some_below-elim (2 ^ r.width) (betweenb r low high) (T_not-not (some_below (2 ^ r.width) (betweenb r low high)) t) in
      record { member = n; is_inside = between-of-test n u }

  pub ranged : Inhabited (Between r low high) → Ranged r low high (range_in r low high)
  unfolding range_in best_of
  ranged S =
      let s = smallest-below (2 ^ r.width) (betweenb r low high) S.member (passing S.member S.is_inside) in
      let l = largest-below (2 ^ r.width) (betweenb r low high) S.member (passing S.member S.is_inside) in
      record {
        best_vector = best_of-hull r.width (betweenb r low high) (Between r low high) between-of-test (λ n b. (b.covered.below, test-of-between n b));
        smallest_is = record { is_inside = between-of-test _ s.is_inside.passes; least = λ n b. s.least n (passing n b) };
        largest_is = record { is_inside = between-of-test _ l.is_inside.passes; greatest = λ n b. l.greatest n (passing n b) };
      }

  -- and no other answer is
  pub ranged-only : (x y : Range) → Ranged r low high x → Ranged r low high y → x ≡ y
  ranged-only x y X Y = λ ι. record { mask = ap (λ (q : Row). q.mask) vectors ι; value = ap (λ (q : Row). q.value) vectors ι; smallest = smallests ι; largest = largests ι }
    where
      vectors : row r.width x.mask x.value ≡ row r.width y.mask y.value
      vectors =
          hull-unique r.width (Between r low high) _ _ (record { member = x.smallest; is_inside = X.smallest_is.is_inside }) X.best_vector Y.best_vector

      smallests : x.smallest ≡ y.smallest
      smallests = let a = X.smallest_is.least y.smallest Y.smallest_is.is_inside in let b = Y.smallest_is.least x.smallest X.smallest_is.is_inside in omega arith

      largests : x.largest ≡ y.largest
      largests = let a = X.largest_is.greatest y.largest Y.largest_is.is_inside in let b = Y.largest_is.greatest x.largest X.largest_is.is_inside in omega arith

  -- ---- what the code has to show

  choose : (b : Bool) → (T b → ⊥) → (x : Option Range) → x ≡ cond b None x
  choose true h x = absurd (h tt)
  choose false h x = refl

  pub is-empty : ((n : ℕ) → Between r low high n → ⊥) → None ≡ in_range_of r low high
  is-empty h = go (none_between r low high) (none-iff.1 h)
    where
      go : (b : Bool) → T b → None ≡ cond b None (Some (range_in r low high))
      go true t = refl
      go false t = absurd t

  pub is_found : (x : Range) → Ranged r low high x → Some x ≡ in_range_of r low high
  is_found x X =
      ap Some (ranged-only x (range_in r low high) X (ranged (record { member = x.smallest; is_inside = X.smallest_is.is_inside })))
      ∙ choose (none_between r low high) (λ t. none-iff.0 t x.smallest X.smallest_is.is_inside) (Some (range_in r low high))
