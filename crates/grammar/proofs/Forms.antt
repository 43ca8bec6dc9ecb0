-- A text of edition 3 is its own edition-3 form. Assumes nothing.
--   form-same   that
use mathlib.Core.Path.{◌≡◌, refl, sym, ap, ap₂, ◌∙◌}
use mathlib.Core.Bool.{cond, ◌||◌, false}
use mathlib.Core.Logic.{inl, inr}
use mathlib.Core.List.{List, [], ◌∷◌, ◌++◌, map, map-id}
use Prim.Native.Nat.{ℕ}
use lib.Dec.{T, eqb, eqb→eq}
use lib.ListN.{length, take, drop, take-append-drop}
use Rattle.bits.proofs.Bools.{T-or, by_cond}
use Rattle.grammar.specs.Lists.{same}
use Rattle.grammar.specs.Words.{lf, tab, row_word, op_word, letter0, letter1, letter_x, three_letters, edition3, header3}
use Rattle.grammar.specs.Print.{joined}
use Rattle.grammar.specs.Cut.{pieces}
use Rattle.grammar.specs.Lines.{headed_by, Opening}
use Rattle.grammar.specs.Form.{letter_form, row_form, record_form, fields_form, line_form, form_of}
use Rattle.grammar.proofs.Tests.{same→eq}
use Rattle.grammar.proofs.Cuts.{joined-pieces}
use Rattle.grammar.proofs.Openings.{opening-third}

letter-same : (b : ℕ) → letter_form three_letters b ≡ b
letter-same b = kept letter_x _ (kept letter1 _ (kept letter0 b refl))
  where
    -- the letter d for itself, another as x
    kept : (d x : ℕ) → x ≡ b → cond (eqb b d || false) d x ≡ b
    kept d x e =
        by_cond (λ (y : ℕ). y ≡ b) (eqb b d || false) d x
        (λ t. elim (T-or (eqb b d) false t) [ inl u ↦ sym (eqb→eq b d u) | inr u ↦ absurd u ])
        (λ t. e)

-- what a map leaves alone, element by element, it leaves alone
all_same : {A : Type 0} (f : A → A) → ((a : A) → f a ≡ a) → (l : List A) → map f l ≡ l
all_same {A} f h l = ap (λ (g : A → A). map g l) (λ i a. h a i) ∙ map-id l

row_same : (fs : List (List ℕ)) → row_form edition3 fs ≡ fs
row_same [] = refl
row_same (lock ∷ []) = refl
row_same (lock ∷ vector ∷ fs) = ap {B = List (List ℕ)} (λ (x : List ℕ). lock ∷ x ∷ fs) (all_same (letter_form three_letters) letter-same vector)

record_same : (fs : List (List ℕ)) → record_form edition3 fs ≡ fs
record_same [] = refl
record_same (name ∷ ns) = refl

fields-same : (fs : List (List ℕ)) → fields_form edition3 fs ≡ fs
fields-same [] = refl
fields-same (f ∷ fs) =
    ap {B = List (List ℕ)} (λ (x : List (List ℕ)). f ∷ x)
    (by_cond Same (same f row_word) (row_form edition3 fs) (cond (same f op_word) (record_form edition3 fs) fs)
    (λ t. row_same fs)
    (λ t. by_cond Same (same f op_word) (record_form edition3 fs) fs (λ u. record_same fs) (λ u. refl)))
  where
    Same : List (List ℕ) → Type 0
    Same x = x ≡ fs

line_same : (line : List ℕ) → line_form edition3 line ≡ line
line_same line = ap (joined tab) (fields-same (pieces tab line)) ∙ joined-pieces tab line

pub form-same : (text : List ℕ) → T (headed_by header3 text) → form_of text ≡ text
unfolding form_of headed_by
form-same text t =
    let rest = drop (length header3) text in
    let lines = ap (joined lf) (all_same (line_form edition3) line_same (pieces lf rest)) ∙ joined-pieces lf rest in
    ap (λ (o : Opening). header3 ++ joined lf (map (line_form o.edition) (pieces lf (drop o.at text)))) (opening-third text t)
    ∙ ap₂ (λ (x y : List ℕ). x ++ y) (sym (same→eq (take (length header3) text) header3 t)) lines
    ∙ take-append-drop (length header3) text
