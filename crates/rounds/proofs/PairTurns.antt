-- The loops over pairs: no state row changes where each next row lies inside; state rows widened one after another are widened all together. Assumes nothing.
--   stays .. i              pair i changes nothing
--   PairsFrom .. i s        the widening at pair i, the rows being s
use mathlib.Core.Path.{◌≡◌, refl, sym, ap, ◌∙◌, subst}
use mathlib.Core.Bool.{Bool, true, false}
use mathlib.Core.List.{List, ◌∷◌}
use Prim.Native.Nat.{ℕ, suc, ◌+◌, ◌-◌, ◌≤◌, ◌<◌}
use native.Mathlib.Nat.{sub-zero}
use native.Mathlib.Numerals.{add-one}
use native.Mathlib.Omega.{arith}
use lib.Dec.{T, not_T}
use lib.Ieee.Bits.{is_true, is_false}
use lib.ListN.{length, get_or, set, length-set}
use Rattle.bits.specs.Counted.{listed}
use Rattle.vectors.specs.Lists.{all_of}
use Rattle.vectors.specs.Row.{Row}
use Rattle.vectors.specs.Hull.{join}
use Rattle.vectors.proofs.Lists.{all_of-all, all-all_of}
use Rattle.vectors.proofs.ListParts.{listed-all, all_listed}
use Rattle.checks.specs.Table.{State, row_at}
use Rattle.steps.specs.Step.{put, put_all}
use Rattle.steps.proofs.Put.{row_other}
use Rattle.orders.specs.Order.{equal_row}
use Rattle.rounds.specs.Clock.{Pair, pair_at, pairs_of, widened, widen, unchanged}
use Rattle.rounds.specs.Encoding.{PairsReady}

module _ (widths ss ns : List ℕ) (ran s : State) where
  -- pair i changes nothing
  abbrev pub stays : ℕ → Bool
  stays i = equal_row (widened widths ran s (pair_at ss ns i)) (row_at widths s (get_or ss i 0))

  abbrev test : Pair → Bool
  test p = equal_row (widened widths ran s p) (row_at widths s p.state)

  pub all_stay : ((j : ℕ) → j < length ss → stays j ≡ true) → unchanged widths (pairs_of ss ns) ran s ≡ true
  unfolding unchanged pairs_of
  all_stay h = is_true _ (all-all_of test (pairs_of ss ns) (listed-all (λ p. T (test p)) (pair_at ss ns) 0 (length ss) (λ j l u. subst T (sym (h j (omega arith))) tt)))

  pub one-changes : (j : ℕ) → j < length ss → stays j ≡ false → unchanged widths (pairs_of ss ns) ran s ≡ false
  unfolding unchanged pairs_of
  one-changes j h e =
      is_false _ (not_T (all_of test (pairs_of ss ns)) (λ t. subst T e (all_listed (λ p. T (test p)) (pair_at ss ns) 0 (length ss) (all_of-all test (pairs_of ss ns) t) j (omega arith) (omega arith))))

-- ---- the widening

module _ (widths ss ns : List ℕ) (ran s₀ : State) where
  -- the pairs from pair i on
  abbrev rest : ℕ → List Pair
  rest i = listed (pair_at ss ns) i (length ss - i)

  abbrev widen_rest : ℕ → State → State
  widen_rest i s = put_all (λ p. p.state) (widened widths ran s₀) (rest i) s

  -- the state rows of the pairs from i on are still those of the start
  pub record PairsFrom (i : ℕ) (s : State) : Type 0 where
    pub rows_are : widen widths (pairs_of ss ns) ran s₀ ≡ widen_rest i s
    pub ahead : (j : ℕ) → i ≤ j → j < length ss → row_at widths s (get_or ss j 0) ≡ row_at widths s₀ (get_or ss j 0)

  pub pairs_start : PairsFrom 0 s₀
  unfolding widen pairs_of
  pairs_start =
      record {
        rows_are = ap (λ (n : ℕ). put_all (λ p. p.state) (widened widths ran s₀) (listed (pair_at ss ns) 0 n) s₀) (sym (sub-zero (length ss)));
        ahead = λ j l h. refl;
      }

  rest-step : (i : ℕ) → i < length ss → rest i ≡ pair_at ss ns i ∷ rest (i + 1)
  unfolding listed
  rest-step i h =
      let e : length ss - i ≡ suc (length ss - (i + 1)) = omega arith in
      ap (listed (pair_at ss ns) i) e ∙ ap {B = List Pair} (λ (j : ℕ). pair_at ss ns i ∷ listed (pair_at ss ns) j (length ss - (i + 1))) (sym (add-one i))

  -- one turn
  pub pairs-step : (n : ℕ) → PairsReady n ss ns → (i : ℕ) (s s' : State) → i < length ss → PairsFrom i s
      → s' ≡ put s (get_or ss i 0) (widened widths ran s (pair_at ss ns i)) → PairsFrom (i + 1) s'
  pairs-step n R i s s' h P es =
      record {
        rows_are = P.rows_are ∙ ap (λ (l : List Pair). put_all (λ p. p.state) (widened widths ran s₀) l s) (rest-step i h) ∙ ap (widen_rest (i + 1)) (sym put_is);
        ahead = λ j l u.
            ap (λ (r : State). row_at widths r (get_or ss j 0)) put_is
            ∙ row_other widths s (get_or ss i 0) (widened widths ran s₀ (pair_at ss ns i)) (get_or ss j 0) (R.named_once i j (omega arith) u)
            ∙ P.ahead j (omega arith) u;
      }
    where
      put_is : s' ≡ put s (get_or ss i 0) (widened widths ran s₀ (pair_at ss ns i))
      put_is =
          es
          ∙ ap (λ (r : Row). put s (get_or ss i 0) (join r (row_at widths ran (get_or ns i 0)))) (P.ahead i (omega arith) h)

  pub pairs_end : (i : ℕ) (s : State) → length ss ≤ i → PairsFrom i s → s ≡ widen widths (pairs_of ss ns) ran s₀
  unfolding listed
  pairs_end i s h P =
      let e : length ss - i ≡ 0 = omega arith in
      sym (P.rows_are ∙ ap (λ (n : ℕ). put_all (λ p. p.state) (widened widths ran s₀) (listed (pair_at ss ns) i n) s) e)

-- a row put keeps the slices' lengths
pub put-lengths : (s s' : State) (i m v : ℕ) → s' ≡ record { masks = set s.masks i m; values = set s.values i v } → (length s'.masks ≡ length s.masks) × (length s'.values ≡ length s.values)
put-lengths s s' i m v e = (ap (λ (x : State). length x.masks) e ∙ length-set s.masks i m, ap (λ (x : State). length x.values) e ∙ length-set s.values i v)
