-- A test of all rows of a span, row after row: what a loop that stops at the first row that fails goes by. Assumes nothing.
--   rest i   the test of the rows of the span from the i-th on
use mathlib.Core.Path.{◌≡◌, refl, ap, ◌∙◌}
use mathlib.Core.Bool.{Bool, true, false, not, ◌&&◌, ◌||◌}
use mathlib.Core.List.{List, [], ◌∷◌}
use Prim.Native.Nat.{ℕ, suc, ◌+◌, ◌-◌, ◌≤◌, ◌<◌}
use native.Mathlib.Omega.{arith}
use Rattle.bits.specs.Counted.{listed}
use Rattle.vectors.specs.Lists.{all_of, some_of}
use Rattle.operations.specs.Memory.{span}

module _ (p : ℕ → Bool) (base n : ℕ) where
  abbrev pub rest : ℕ → Bool
  rest i = all_of p (span (base + i) (n - i))

  pub rest-start : all_of p (span base n) ≡ rest 0
  rest-start =
      let e : base ≡ base + 0 = omega arith in
      let f : n ≡ n - 0 = omega arith in
      λ ι. all_of p (span (e ι) (f ι))

  rest-step : (i : ℕ) → i < n → rest i ≡ (p (base + i) && rest (i + 1))
  unfolding all_of listed
  rest-step i h =
      let e : n - i ≡ suc (n - (i + 1)) = omega arith in
      let f : suc (base + i) ≡ base + (i + 1) = omega arith in
      ap (λ (m : ℕ). all_of p (span (base + i) m)) e ∙ ap (λ (b : ℕ). p (base + i) && all_of p (span b (n - (i + 1)))) f

  pub rest-goes-on : (i : ℕ) → i < n → p (base + i) ≡ true → rest i ≡ rest (i + 1)
  rest-goes-on i h e = rest-step i h ∙ ap (λ (b : Bool). b && rest (i + 1)) e

  pub rest-stops : (i : ℕ) → i < n → p (base + i) ≡ false → rest i ≡ false
  rest-stops i h e = rest-step i h ∙ ap (λ (b : Bool). b && rest (i + 1)) e

  pub rest_end : (i : ℕ) → n ≤ i → rest i ≡ true
  unfolding all_of listed
  rest_end i h = let e : n - i ≡ 0 = omega arith in ap (λ (m : ℕ). all_of p (span (base + i) m)) e

-- some row passes a test where not all fail it
pub some-not-all : (p : ℕ → Bool) (l : List ℕ) → some_of p l ≡ not (all_of (λ i. not (p i)) l)
unfolding all_of some_of
some-not-all p [] = refl
some-not-all p (i ∷ l) = go (p i) (some-not-all p l)
  where
    go : (b : Bool) → some_of p l ≡ not (all_of (λ i. not (p i)) l) → (b || some_of p l) ≡ not (not b && all_of (λ i. not (p i)) l)
    go true e = refl
    go false e = e
