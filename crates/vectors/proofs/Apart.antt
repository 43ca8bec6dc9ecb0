-- An operand taken apart: where two vectors inside a row share its numbers between them, the join of the results for the two is the result. Assumes nothing.
--   chosen-place, apart-place   the choices with a row inside it in its place, and with either of two
--   best-place   the join, of the operand at any place of the list and for any function
use mathlib.Core.Path.{◌≡◌}
use mathlib.Core.Logic.{◌⊎◌, inl, inr}
use mathlib.Core.List.{List, [], ◌∷◌, ◌++◌}
use Prim.Native.Nat.{ℕ}
use Rattle.vectors.specs.Lists.{All}
use Rattle.vectors.specs.Row.{Row, WellFormed, Covers, Inside}
use Rattle.vectors.specs.Choice.{Chosen}
use Rattle.vectors.specs.Best.{best}
use Rattle.vectors.specs.Hull.{Results, join}
use Rattle.vectors.proofs.Hulls.{hull-iff}
use Rattle.vectors.proofs.Joins.{hull-join}
use Rattle.vectors.proofs.Bests.{best-hull, best-of-hull, some_result}

-- ---- choices

pub chosen-place : (before after : List Row) (p q : Row) → Inside p q → (ns : List ℕ) → Chosen (before ++ p ∷ after) ns → Chosen (before ++ q ∷ after) ns
chosen-place [] after p q i [] c = absurd c
chosen-place [] after p q i (n ∷ ns) c = (i n c.0, c.1)
chosen-place (b ∷ bs) after p q i [] c = absurd c
chosen-place (b ∷ bs) after p q i (n ∷ ns) c = (c.0, chosen-place bs after p q i ns c.1)

pub apart-place : (before after : List Row) (r p q : Row) → ((n : ℕ) → Covers r n → Covers p n ⊎ Covers q n)
    → (ns : List ℕ) → Chosen (before ++ r ∷ after) ns → Chosen (before ++ p ∷ after) ns ⊎ Chosen (before ++ q ∷ after) ns
apart-place [] after r p q h [] c = absurd c
apart-place [] after r p q h (n ∷ ns) c = elim (h n c.0) [ inl x ↦ inl (x, c.1) | inr x ↦ inr (x, c.1) ]
apart-place (b ∷ bs) after r p q h [] c = absurd c
apart-place (b ∷ bs) after r p q h (n ∷ ns) c = elim (apart-place bs after r p q h ns c.1) [ inl x ↦ inl (c.0, x) | inr x ↦ inr (c.0, x) ]

-- ---- results

-- the results of two lists of rows are together those of a third
best-apart : (w : ℕ) (f : List ℕ → ℕ) (rows ps qs : List Row) → All WellFormed rows → All WellFormed ps → All WellFormed qs
    → ((ns : List ℕ) → Chosen ps ns → Chosen rows ns) → ((ns : List ℕ) → Chosen qs ns → Chosen rows ns)
    → ((ns : List ℕ) → Chosen rows ns → Chosen ps ns ⊎ Chosen qs ns)
    → join (best w f ps) (best w f qs) ≡ best w f rows
best-apart w f rows ps qs F P Q inp inq apart =
    best-of-hull w f rows (join (best w f ps) (best w f qs)) F
    (hull-iff w (λ n. Results f ps n ⊎ Results f qs n) (Results f rows) _ back there
    (hull-join w (Results f ps) (Results f qs) (best w f ps) (best w f qs) (best-hull w f ps) (best-hull w f qs) (some_result f ps P) (some_result f qs Q)))
  where
    from : (ps : List Row) (n : ℕ) (r : Results f ps n) (qs : List Row) → Chosen qs r.numbers → Results f qs n
    from ps n r qs c = record { numbers = r.numbers; chosen = c; gives = r.gives }

    back : (n : ℕ) → Results f ps n ⊎ Results f qs n → Results f rows n
    back n (inl r) = from ps n r rows (inp r.numbers r.chosen)
    back n (inr r) = from qs n r rows (inq r.numbers r.chosen)

    there : (n : ℕ) → Results f rows n → Results f ps n ⊎ Results f qs n
    there n r = elim (apart r.numbers r.chosen) [ inl c ↦ inl (from rows n r ps c) | inr c ↦ inr (from rows n r qs c) ]

pub best-place : (w : ℕ) (f : List ℕ → ℕ) (before after : List Row) (r p q : Row)
    → All WellFormed (before ++ r ∷ after) → All WellFormed (before ++ p ∷ after) → All WellFormed (before ++ q ∷ after)
    → Inside p r → Inside q r → ((n : ℕ) → Covers r n → Covers p n ⊎ Covers q n)
    → join (best w f (before ++ p ∷ after)) (best w f (before ++ q ∷ after)) ≡ best w f (before ++ r ∷ after)
best-place w f before after r p q F P Q i j h =
    best-apart w f (before ++ r ∷ after) (before ++ p ∷ after) (before ++ q ∷ after) F P Q (chosen-place before after p r i) (chosen-place before after q r j) (apart-place before after r p q h)
