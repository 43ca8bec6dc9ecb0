-- A byte looked for among letters: the loop that goes through them, and what its answers tell. Assumes nothing.
--   Left b l i   whether b stands in l is told by what follows the first i
--   found, passed, at-end   the letter is b; it is not; there is none left;   found_from   of what follows the first i, where the letter is b
--   in-edition   the letters of an edition that was told
use mathlib.Core.Path.{◌≡◌, sym, ap, ◌∙◌}
use mathlib.Core.Bool.{Bool, true, false, ◌||◌}
use mathlib.Core.List.{List}
use Prim.Native.Nat.{ℕ, suc, ◌+◌, ◌<◌}
use native.Mathlib.Numerals.{add-one}
use lib.Dec.{eqb}
use lib.ListN.{length, get_or, drop}
use lib.Seq.{drop-cons, drop-length}
use borrow.Author.Tests.{eq-eqb, ne_eqb}
use Rattle.grammar.specs.Lists.{is_in}
use Rattle.grammar.specs.Words.{Alphabet}
use Rattle.letters.specs.declared.Edition.{Edition}
use Rattle.letters.specs.Model.{edition_model}

abbrev pub Left : ℕ → List ℕ → ℕ → Type 0
Left b l i = is_in b (drop i l) ≡ is_in b l

module _ (b : ℕ) (l : List ℕ) (i : ℕ) (left : Left b l i) where
  -- whether the letter here is b is told by t
  here : i < length l → (t : Bool) → eqb b (get_or l i 0) ≡ t → (t || is_in b (drop (suc i) l)) ≡ is_in b l
  here h t e = sym (ap (is_in b) (drop-cons l i 0 h) ∙ ap (λ (x : Bool). x || is_in b (drop (suc i) l)) e) ∙ left

  pub found : i < length l → get_or l i 0 ≡ b → true ≡ is_in b l
  found h e = here h true (eq-eqb b (get_or l i 0) (sym e))

  pub passed : i < length l → (get_or l i 0 ≡ b → ⊥) → Left b l (i + 1)
  passed h e = ap (λ (k : ℕ). is_in b (drop k l)) (add-one i) ∙ here h false (ne_eqb b (get_or l i 0) (λ x. e (sym x)))

  pub at-end : i ≡ length l → false ≡ is_in b l
  at-end e = sym (ap (λ (k : ℕ). is_in b (drop k l)) e ∙ ap (is_in b) (drop-length l)) ∙ left

-- b stands in what follows the first i letters, as the letter here is b
pub found_from : (b : ℕ) (l : List ℕ) (i : ℕ) → i < length l → get_or l i 0 ≡ b → is_in b (drop i l) ≡ true
found_from b l i h e =
    ap (is_in b) (drop-cons l i 0 h) ∙ ap (λ (x : Bool). x || is_in b (drop (suc i) l)) (eq-eqb b (get_or l i 0) (sym e))

-- ---- what an answer r tells

-- of the letters for 0, for 1 or for X, in the edition e that was found to be x
pub in-edition : (letters : Alphabet → List ℕ) (b : ℕ) (e x : Edition) (r : Bool) → e ≡ x → r ≡ is_in b (letters (edition_model x).letters) → r ≡ is_in b (letters (edition_model e).letters)
in-edition letters b e x r is h = h ∙ ap (λ (y : Edition). is_in b (letters (edition_model y).letters)) (sym is)
