-- Lists made by counting up.
--   listed f i n   f i, f (i + 1), .. , of which there are n
--   rising f i n   the lists f i, f (i + 1), .. , of which there are n, one after another
use Rattle.std.specs.Prelude.{List, [], ◌∷◌, ◌++◌, ℕ, zero, suc}

unfoldable pub listed : {A : Type 0} → (ℕ → A) → ℕ → ℕ → List A
listed f i zero = []
listed f i (suc n) = f i ∷ listed f (suc i) n

unfoldable pub rising : {A : Type 0} → (ℕ → List A) → ℕ → ℕ → List A
rising f i zero = []
rising f i (suc n) = f i ++ rising f (suc i) n
