-- The ends of a part, by the pieces of the bytes, and the ends of a field. Assumes nothing.
--   past-on, past-none    the n-th separator, by the first
--   part-is               the bytes between a part's ends are the piece of that number
--   part-within           a part ends inside the bytes
--   field_is              the field handed back is the piece of the line of that number
use mathlib.Core.Path.{◌≡◌, refl, sym, ap, ◌∙◌}
use mathlib.Core.Bool.{Bool, true, false, cond}
use mathlib.Core.Logic.{inl, inr}
use mathlib.Core.List.{List, [], ◌∷◌}
use Prim.Native.Nat.{ℕ, zero, suc, ◌+◌, ◌-◌, ◌≤◌, ◌<◌}
use native.Mathlib.Nat.{eq-or-lt_of_le, suc-add}
use native.Mathlib.Omega.{arith}
use lib.Dec.{eqb}
use lib.ListN.{length, get_or, take, drop, length-drop}
use lib.Seq.{drop-drop, drop-length, take-nil, length-take-le, take-take}
use Rattle.grammar.specs.Words.{lf, tab}
use Rattle.grammar.specs.Cut.{pieces, before, past, Ends, between, part_ends, within, field_ends, Part, field_of}
use Rattle.grammar.proofs.Cuts.{before-le, pieces-first, pieces-last}

-- piece n, from 1; an empty one where there is none
abbrev pub nth : List (List ℕ) → ℕ → List ℕ
nth ps zero = []
nth ps (suc n) = get_or ps n []

pub past-on : (c n : ℕ) (bs : List ℕ) → before c bs < length bs → past c (suc n) bs ≡ suc (before c bs) + past c n (drop (suc (before c bs)) bs)
unfolding past before
past-on c n [] h = absurd (omega arith)
past-on c n (b ∷ bs) h = go (eqb b c) h (λ k. past-on c n bs k)
  where
    go : (t : Bool) → cond t zero (suc (before c bs)) < suc (length bs) → (before c bs < length bs → past c (suc n) bs ≡ suc (before c bs) + past c n (drop (suc (before c bs)) bs))
        → suc (cond t (past c n bs) (past c (suc n) bs)) ≡ suc (cond t zero (suc (before c bs))) + past c n (drop (suc (cond t zero (suc (before c bs)))) (b ∷ bs))
    go true k r = omega arith
    go false k r = omega (arith, r (omega arith))

pub past-none : (c n : ℕ) (bs : List ℕ) → before c bs ≡ length bs → past c (suc n) bs ≡ length bs
unfolding past before
past-none c n [] h = refl
past-none c n (b ∷ bs) h = go (eqb b c) h (λ k. past-none c n bs k)
  where
    go : (t : Bool) → cond t zero (suc (before c bs)) ≡ suc (length bs) → (before c bs ≡ length bs → past c (suc n) bs ≡ length bs)
        → suc (cond t (past c n bs) (past c (suc n) bs)) ≡ suc (length bs)
    go true k r = absurd (omega arith)
    go false k r = ap suc (r (omega arith))

pub past-le : (c n : ℕ) (bs : List ℕ) → past c n bs ≤ length bs
unfolding past
past-le c zero bs = omega arith
past-le c (suc n) [] = omega arith
past-le c (suc n) (b ∷ bs) = go (eqb b c) (past-le c n bs) (past-le c (suc n) bs)
  where
    go : (t : Bool) → past c n bs ≤ length bs → past c (suc n) bs ≤ length bs → suc (cond t (past c n bs) (past c (suc n) bs)) ≤ suc (length bs)
    go true h k = omega arith
    go false h k = omega arith

pub part-within : (c n : ℕ) (bs : List ℕ) → ((part_ends c n bs).start ≤ (part_ends c n bs).end) × ((part_ends c n bs).end ≤ length bs)
unfolding part_ends
part-within c zero bs = (omega arith, omega arith)
part-within c (suc n) bs = (omega arith, omega (arith, before-le c (drop (past c n bs) bs), length-drop (past c n bs) bs, past-le c n bs))

-- the part from the n-th separator on
abbrev from : ℕ → ℕ → List ℕ → List ℕ
from c n bs = take (before c (drop (past c n bs) bs)) (drop (past c n bs) bs)

first_piece : (c : ℕ) (bs : List ℕ) → take (before c bs) bs ≡ get_or (pieces c bs) 0 []
first_piece c bs =
    elim (eq-or-lt_of_le (before-le c bs)) [
      | inl e ↦ sym (ap (λ (x : List (List ℕ)). get_or x 0 []) (pieces-last c bs e))
      | inr l ↦ sym (ap (λ (x : List (List ℕ)). get_or x 0 []) (pieces-first c bs l))
    ]

from_is : (c n : ℕ) (bs : List ℕ) → from c n bs ≡ get_or (pieces c bs) n []
unfolding past
from_is c zero bs = first_piece c bs
from_is c (suc n) bs =
    elim (eq-or-lt_of_le (before-le c bs)) [
      | inl e ↦
          ap (λ (k : ℕ). take (before c (drop k bs)) (drop k bs)) (past-none c n bs e)
          ∙ ap (λ (x : List ℕ). take (before c x) x) (drop-length bs)
          ∙ take-nil (before c [])
          ∙ sym (ap (λ (x : List (List ℕ)). get_or x (suc n) []) (pieces-last c bs e))
      | inr l ↦
          let rest = drop (suc (before c bs)) bs in
          let k : drop (past c (suc n) bs) bs ≡ drop (past c n rest) rest =
          ap (λ (m : ℕ). drop m bs) (past-on c n bs l) ∙ sym (drop-drop (past c n rest) (suc (before c bs)) bs) in
          ap (λ (x : List ℕ). take (before c x) x) k ∙ from_is c n rest ∙ sym (ap (λ (x : List (List ℕ)). get_or x (suc n) []) (pieces-first c bs l))
    ]

pub part-is : (c n : ℕ) (bs : List ℕ) → between bs (part_ends c n bs) ≡ nth (pieces c bs) n
unfolding part_ends
part-is c zero bs = refl
part-is c (suc n) bs =
    let e : past c n bs + before c (drop (past c n bs) bs) - past c n bs ≡ before c (drop (past c n bs) bs) = omega arith in
    ap (λ (k : ℕ). take k (drop (past c n bs) bs)) e ∙ from_is c n bs

-- ---- a part of a part

take-drop : {A : Type 0} (m n : ℕ) (l : List A) → drop m (take (m + n) l) ≡ take n (drop m l)
take-drop zero n l = let e : 0 + n ≡ n = omega arith in ap (λ (k : ℕ). take k l) e
take-drop (suc m) n [] = ap (λ (k : ℕ). drop (suc m) (take k [])) (suc-add m n) ∙ sym (take-nil n)
take-drop (suc m) n (a ∷ l) = ap (λ (k : ℕ). drop (suc m) (take k (a ∷ l))) (suc-add m n) ∙ take-drop m n l

pub between-within : (bs : List ℕ) (l f : Ends) → l.start ≤ l.end → l.end ≤ length bs → f.start ≤ f.end → f.end ≤ length (between bs l)
    → between bs (within l f) ≡ between (between bs l) f
between-within bs l f hl hb hf hi =
    let part = drop l.start bs in
    let n : length (between bs l) ≡ l.end - l.start = length-take-le (l.end - l.start) part (omega (arith, length-drop l.start bs)) in
    let e₁ : l.start + f.end - (l.start + f.start) ≡ f.end - f.start = omega arith in
    let e₂ : l.end - l.start ≡ f.start + (l.end - l.start - f.start) = omega arith in
    ap (λ (k : ℕ). take k (drop (l.start + f.start) bs)) e₁
    ∙ ap (take (f.end - f.start)) (sym (drop-drop f.start l.start bs))
    ∙ sym (take-take (f.end - f.start) (l.end - l.start - f.start) (drop f.start part) (omega arith))
    ∙ sym (ap (take (f.end - f.start)) (ap (λ (k : ℕ). drop f.start (take k part)) e₂ ∙ take-drop f.start (l.end - l.start - f.start) part))

pub field_is : (text : Part) (line field : ℕ) → (field_of text line field).bytes ≡ nth (pieces tab (nth (pieces lf text.bytes) line)) field
unfolding field_of field_ends
field_is text line field =
    let bs = text.bytes in
    let l = part_ends lf line bs in
    let f = part_ends tab field (between bs l) in
    between-within bs l f (part-within lf line bs).0 (part-within lf line bs).1 (part-within tab field (between bs l)).0 (part-within tab field (between bs l)).1
    ∙ part-is tab field (between bs l)
    ∙ ap (λ (x : List ℕ). nth (pieces tab x) field) (part-is lf line bs)
