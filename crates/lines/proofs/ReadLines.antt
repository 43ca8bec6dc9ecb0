-- A line by its first field and the count of its fields: what each way out has to show. Assumes nothing.
--   line_row_lem, line-short-row   a row line
--   line-op                    a record line
--   line_other                 any other line
use mathlib.Core.Path.{◌≡◌, refl, sym, ap, ap₂, ◌∙◌}
use mathlib.Core.Bool.{Bool, true, false, cond}
use mathlib.Core.List.{List, [], ◌∷◌}
use Prim.Native.Nat.{ℕ, suc}
use native.Mathlib.Omega.{arith}
use lib.ListN.{length, drop}
use Rattle.grammar.specs.Lists.{same}
use Rattle.grammar.specs.Words.{row_word, op_word, Edition}
use Rattle.grammar.specs.Print.{Line, outside}
use Rattle.grammar.specs.Line.{row_of, record_in, line_of}
use Rattle.grammar.proofs.Parts.{nth}

three : (fs : List (List ℕ)) → length fs ≡ 3 → fs ≡ nth fs 1 ∷ nth fs 2 ∷ nth fs 3 ∷ []
three [] e = absurd (omega arith)
three (a ∷ []) e = absurd (omega arith)
three (a ∷ b ∷ []) e = absurd (omega arith)
three (a ∷ b ∷ c ∷ []) e = refl
three (a ∷ b ∷ c ∷ d ∷ fs) e = absurd (omega arith)

row_count : (e : Edition) (fs : List (List ℕ)) → (length fs ≡ 2 → ⊥) → row_of e fs ≡ outside
row_count e [] h = refl
row_count e (a ∷ []) h = refl
row_count e (a ∷ b ∷ []) h = absurd (h refl)
row_count e (a ∷ b ∷ c ∷ fs) h = refl

abbrev chosen : Edition → Bool → Bool → List (List ℕ) → Line
chosen e x y fs = cond x (row_of e fs) (cond y (record_in e fs) outside)

-- by the fields fs of a line, and the answers r and s of the two comparisons of the first
line-chosen : (e : Edition) (f : List ℕ) (fs : List (List ℕ)) (r s : Bool) → r ≡ same f row_word → s ≡ same f op_word → line_of e (f ∷ fs) ≡ chosen e r s fs
unfolding line_of
line-chosen e f fs r s er es = sym (ap₂ (λ (x y : Bool). chosen e x y fs) er es)

module _ (e : Edition) (fs : List (List ℕ)) (r s : Bool) (er : r ≡ same (nth fs 1) row_word) (es : s ≡ same (nth fs 1) op_word) where
  -- the line l that was found by its fields
  pub line_row_lem : r ≡ true → length fs ≡ 3 → (lock letters : List ℕ) → lock ≡ nth fs 2 → letters ≡ nth fs 3 → (l : Line) → l ≡ row_of e (lock ∷ letters ∷ []) → l ≡ line_of e fs
  line_row_lem t n lock letters el ev l is =
      is
      ∙ ap₂ (λ (x y : List ℕ). row_of e (x ∷ y ∷ [])) el ev
      ∙ sym (ap (line_of e) (three fs n) ∙ line-chosen e (nth fs 1) (nth fs 2 ∷ nth fs 3 ∷ []) r s er es ∙ ap (λ (x : Bool). chosen e x s (nth fs 2 ∷ nth fs 3 ∷ [])) t)

pub line-short-row : (e : Edition) (fs : List (List ℕ)) (r s : Bool) → r ≡ same (nth fs 1) row_word → s ≡ same (nth fs 1) op_word → r ≡ true → (length fs ≡ 3 → ⊥) → outside ≡ line_of e fs
unfolding line_of
line-short-row e [] r s er es t h = refl
line-short-row e (g ∷ fs) r s er es t h = sym (line-chosen e g fs r s er es ∙ ap (λ (x : Bool). chosen e x s fs) t ∙ row_count e fs (λ n. h (ap suc n)))

pub line-op : (e : Edition) (fs : List (List ℕ)) (r s : Bool) → r ≡ same (nth fs 1) row_word → s ≡ same (nth fs 1) op_word → r ≡ false → s ≡ true
    → (l : Line) → l ≡ record_in e (drop 1 fs) → l ≡ line_of e fs
unfolding line_of
line-op e [] r s er es f t l is = is
line-op e (g ∷ fs) r s er es f t l is = is ∙ sym (line-chosen e g fs r s er es ∙ ap₂ (λ (x y : Bool). chosen e x y fs) f t)

pub line_other : (e : Edition) (fs : List (List ℕ)) (r s : Bool) → r ≡ same (nth fs 1) row_word → s ≡ same (nth fs 1) op_word → r ≡ false → s ≡ false → outside ≡ line_of e fs
unfolding line_of
line_other e [] r s er es f t = refl
line_other e (g ∷ fs) r s er es f t = sym (line-chosen e g fs r s er es ∙ ap₂ (λ (x y : Bool). chosen e x y fs) f t)
