-- Each answer of compare_states says what it means, and the tests of two vectors do. Assumes nothing.
use mathlib.Core.Path.{◌≡◌, refl, sym, ◌∙◌, subst}
use mathlib.Core.Bool.{Bool, true, false, cond}
use mathlib.Core.List.{List, ◌++◌}
use Prim.Native.Nat.{ℕ, ◌<◌}
use lib.Dec.{T, eqb, eqb→eq}
use lib.ListN.{length, get_or}
use Rattle.bits.proofs.Bools.{T_not-not}
use Rattle.bits.proofs.Below.{all_below-intro, all_below-elim}
use Rattle.vectors.specs.Row.{Row, WellFormed, Inside as InsideRow}
use Rattle.vectors.specs.Hull.{join}
use Rattle.vectors.proofs.Widened.{inside_both, join-right, join-same}
use Rattle.operations.specs.Record.{width_at}
use Rattle.checks.specs.Check.{Answer, done, Check, placed, Passed}
use Rattle.checks.specs.Table.{State, row_at}
use Rattle.checks.specs.Checks.{width_faults, vector_faults}
use Rattle.checks.proofs.Verdicts.{passed-left, passed-right, rising-elim, done-of-passed, passed-of-done, done-same}
use Rattle.checks.proofs.RowChecks.{vector-of-passed}
use Rattle.steps.specs.States.{StateFits, InsideState}
use Rattle.steps.specs.Encoding.{OwnRows}
use Rattle.orders.specs.declared.Order.{Order}
use Rattle.orders.specs.declared.Order.TheVariants.{Equal, Inside, Around, NoneOfThese}
use Rattle.orders.proofs.Equal.{equal-of-test, test-of-equal, equal-of-tests}
use Rattle.orders.specs.Order.{inside_row, equal_states, inside_states, order_of, compare_shape_faults, compare_row_faults, compare_row_checks, compare_checks, compare_of, OrderMeans}

-- ---- two vectors

module _ (p q : Row) (F : WellFormed p) (G : WellFormed q) (e : p.width ≡ q.width) where
  inside-of-test : T (inside_row p q) → InsideRow p q
  inside-of-test t = subst (InsideRow p) (equal-of-test (join q p) q refl t) (join-right q p G F (sym e))

  test-of-inside : InsideRow p q → T (inside_row p q)
  test-of-inside I = test-of-equal (join q p) q (join-same q p G F (sym e) I)

-- ---- two states

module _ (widths : List ℕ) (p q : State) (S : StateFits widths p) (U : StateFits widths q) where
  inside-of-tests : T (inside_states widths p q) → InsideState widths p q
  unfolding inside_states
  inside-of-tests t i h = inside-of-test (row_at widths p i) (row_at widths q i) (S.formed i h) (U.formed i h) refl (all_below-elim (length widths) _ t i h)

  tests-of-inside : InsideState widths p q → T (inside_states widths p q)
  unfolding inside_states
  tests-of-inside I = all_below-intro (length widths) _ (λ i h. test-of-inside (row_at widths p i) (row_at widths q i) (S.formed i h) (U.formed i h) refl (I i h))

  -- states of which each lies inside the other are equal
  tests-of-both : InsideState widths p q → InsideState widths q p → T (equal_states widths p q)
  unfolding equal_states
  tests-of-both I J =
      all_below-intro (length widths) _
      (λ i h. test-of-equal (row_at widths p i) (row_at widths q i) (inside_both (row_at widths p i) (row_at widths q i) (S.formed i h) (U.formed i h) refl (I i h) (J i h)))

own : {widths : List ℕ} {s : State} → StateFits widths s → OwnRows widths s.masks s.values
own S = record { masks_length = S.masks_length; values_length = S.values_length }

order-means : (widths : List ℕ) (p q : State) → StateFits widths p → StateFits widths q → OrderMeans widths p q (order_of widths p q)
unfolding order_of
order-means widths p q S U =
    go (equal_states widths p q) (inside_states widths p q) (inside_states widths q p) (equal-of-tests widths p q (own S) (own U)) (tests-of-both widths p q S U)
    (inside-of-tests widths p q S U) (tests-of-inside widths p q S U) (inside-of-tests widths q p U S) (tests-of-inside widths q p U S)
  where
    go : (a b c : Bool) → (T a → p ≡ q) → (InsideState widths p q → InsideState widths q p → T a) → (T b → InsideState widths p q) → (InsideState widths p q → T b)
        → (T c → InsideState widths q p) → (InsideState widths q p → T c) → OrderMeans widths p q (cond a Equal (cond b Inside (cond c Around NoneOfThese)))
    go true b c f f' g g' h h' = f tt
    go false true c f f' g g' h h' = (g tt, λ J. f' (g tt) J)
    go false false true f f' g g' h h' = (g', h tt)
    go false false false f f' g g' h h' = (g', h')

-- ---- the call

module _ (widths : List ℕ) (p q : State) where
  abbrev shape : List Check
  shape = placed 0 (compare_shape_faults widths p q)

  -- checks 1 and 2 passed
  pub own-rows : Passed shape → OwnRows widths p.masks p.values × OwnRows widths q.masks q.values
  own-rows L = (
    record {
      masks_length = eqb→eq _ _ (T_not-not (eqb (length p.masks) (length widths)) L.1.1.0);
      values_length = eqb→eq _ _ (T_not-not (eqb (length p.values) (length widths)) L.1.1.1.0);
    },
    record {
      masks_length = eqb→eq _ _ (T_not-not (eqb (length q.masks) (length widths)) L.1.1.1.1.0);
      values_length = eqb→eq _ _ (T_not-not (eqb (length q.values) (length widths)) L.1.1.1.1.1.0);
    },
  )

  module _ (P : Passed (compare_checks widths p q)) where
    pub lengths : Passed shape
    unfolding compare_checks
    lengths = passed-left shape (compare_row_checks widths p q) P

    vectors : (i : ℕ) → i < length widths → WellFormed (row_at widths p i) × WellFormed (row_at widths q i)
    unfolding compare_checks
    vectors i h =
        let w = width_at widths i in
        let first = placed i (vector_faults w (get_or p.masks i 0) (get_or p.values i 0)) in
        let second = placed i (vector_faults w (get_or q.masks i 0) (get_or q.values i 0)) in
        let R = rising-elim (λ i. placed i (compare_row_faults widths p q i)) (length widths) (passed-right shape (compare_row_checks widths p q) P) i h in
        let both = passed-right (placed i (width_faults w)) (first ++ second) R in
        (vector-of-passed w _ _ i (passed-left first second both), vector-of-passed w _ _ i (passed-right first second both))

    first_fits : StateFits widths p
    first_fits = let o = (own-rows lengths).0 in record { masks_length = o.masks_length; values_length = o.values_length; formed = λ i h. (vectors i h).0 }

    second_fits : StateFits widths q
    second_fits = let o = (own-rows lengths).1 in record { masks_length = o.masks_length; values_length = o.values_length; formed = λ i h. (vectors i h).1 }

  -- nothing is assumed but that compare_states answers
  compare-means : (o : Order) → compare_of widths p q ≡ done o → OrderMeans widths p q o
  unfolding compare_of
  compare-means o e =
      let P = passed-of-done (compare_checks widths p q) (order_of widths p q) o e in
      subst (OrderMeans widths p q) (done-same (order_of widths p q) o (sym (done-of-passed (compare_checks widths p q) (order_of widths p q) P) ∙ e))
      (order-means widths p q (first_fits P) (second_fits P))

  -- what the contract asks of an answer
  abbrev pub Meets : Answer Order → Type 0
  Meets a = (a ≡ compare_of widths p q) × ((o : Order) → a ≡ done o → OrderMeans widths p q o)

  pub meets : (a : Answer Order) → a ≡ compare_of widths p q → Meets a
  meets a e = subst Meets (sym e) (refl, compare-means)
