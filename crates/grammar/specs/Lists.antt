-- Tests of lists, and a list put at the start of another.
--   is_in b l       the byte b stands in l
--   same a b       the lists are equal, element by element
--   filled new old  new, and after it what old has there
use Rattle.std.specs.Prelude.{Bool, true, false, ◌&&◌, ◌||◌, List, [], ◌∷◌, ◌++◌, ℕ, eqb, length, drop}

abbrev pub is_in : ℕ → List ℕ → Bool
is_in b [] = false
is_in b (c ∷ l) = eqb b c || is_in b l

unfoldable pub same : List ℕ → List ℕ → Bool
same [] [] = true
same [] (b ∷ bs) = false
same (a ∷ l) [] = false
same (a ∷ l) (b ∷ bs) = eqb a b && same l bs

abbrev pub filled : List ℕ → List ℕ → List ℕ
filled new old = new ++ drop (length new) old
