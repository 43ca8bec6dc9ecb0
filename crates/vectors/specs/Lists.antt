-- Properties and tests of lists.
--   All P l      P holds of each element of l
--   Pointwise R l m   l and m have one length, and R holds of their elements place by place
--   Missing i l  no element of l is i;   Distinct l   no two elements of l are one
--   all_of p l    every element of l passes the test p;   some_of p l   some element passes it
--   sum_of f l    the sum of f over the elements of l
use Rattle.std.specs.Prelude.{Bool, true, false, ◌&&◌, ◌||◌, ◌≢◌, List, [], ◌∷◌, ℕ, ◌+◌}

abbrev pub All : {A : Type 0} → (A → Type 0) → List A → Type 0
All P [] = Unit {0}
All P (a ∷ l) = P a × All P l

abbrev pub Pointwise : {A B : Type 0} → (A → B → Type 0) → List A → List B → Type 0
Pointwise R [] [] = Unit {0}
Pointwise R [] (b ∷ m) = ⊥
Pointwise R (a ∷ l) [] = ⊥
Pointwise R (a ∷ l) (b ∷ m) = R a b × Pointwise R l m

abbrev pub Missing : ℕ → List ℕ → Type 0
Missing i l = All (λ j. j ≢ i) l

abbrev pub Distinct : List ℕ → Type 0
Distinct [] = Unit {0}
Distinct (i ∷ l) = Missing i l × Distinct l

unfoldable pub all_of : {A : Type 0} → (A → Bool) → List A → Bool
all_of p [] = true
all_of p (a ∷ l) = p a && all_of p l

unfoldable pub some_of : {A : Type 0} → (A → Bool) → List A → Bool
some_of p [] = false
some_of p (a ∷ l) = p a || some_of p l

abbrev pub sum_of : {A : Type 0} → (A → ℕ) → List A → ℕ
sum_of f [] = 0
sum_of f (a ∷ l) = f a + sum_of f l
