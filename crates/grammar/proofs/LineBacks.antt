-- A line that was read has the fields that it was read from, as edition 3 has them. Assumes nothing.
--   is_outside, Shaped     outside the grammar; as many words as a record has
--   six-mapped, six-count the numbers of a record line as edition 3 has them: mapped, and counted
--   ReadFrom, line-back   a line that was read by the edition e, and its fields
use mathlib.Core.Path.{◌≡◌, refl, sym, ap, ap₂, ◌∙◌, subst}
use mathlib.Core.Bool.{Bool, true, false, not, cond, ◌&&◌}
use mathlib.Core.Logic.{inl, inr}
use mathlib.Core.List.{List, [], ◌∷◌, map}
use Prim.Native.Nat.{ℕ, suc, ◌-◌}
use native.Mathlib.Omega.{arith}
use lib.Dec.{T, eqb, eqb→eq}
use lib.ListN.{length, length-map}
use Rattle.bits.specs.Bit.{digit}
use Rattle.bits.proofs.Bools.{T-left, T-right, by_cond}
use Rattle.operations.specs.Limits.{record_words}
use Rattle.operations.specs.Kind.{is_row}
use Rattle.operations.specs.Kinds.{kind_of}
use Rattle.grammar.specs.Lists.{same}
use Rattle.vectors.specs.Lists.{all_of}
use Rattle.grammar.specs.Words.{row_word, op_word, open_word, locked_word, lock_word, zero_byte, Edition, number_count, extended, six_for}
use Rattle.grammar.specs.Print.{decimal, Line, row_line, record_line, outside, fields_of}
use Rattle.grammar.specs.Line.{is_number, number_of, is_vector, vector_of, is_lock, lock_of, is_name, number_named, row_of, record_in, line_of}
use Rattle.grammar.specs.Form.{fields_form}
use Rattle.grammar.proofs.Tests.{decide, is_true, is_false, or_left, undone, same→eq}
use Rattle.grammar.proofs.Numbers.{decimal-back}
use Rattle.grammar.proofs.Letters.{letters-back}
use Rattle.grammar.proofs.Vectors.{vector-tests}
use Rattle.grammar.proofs.Names.{Known, name_back}
use Rattle.grammar.proofs.Decimals.{decimal-small}

lock-back : (f : List ℕ) → T (is_lock f) → lock_word (lock_of f) ≡ f
lock-back f t =
    elim (decide (same f locked_word)) [
      | inl u ↦ ap (λ (b : Bool). lock_word (digit b)) (is_true (same f locked_word) u) ∙ sym (same→eq f locked_word u)
      | inr u ↦ ap (λ (b : Bool). lock_word (digit b)) (is_false (same f locked_word) u) ∙ sym (same→eq f open_word (or_left (same f open_word) (same f locked_word) t u))
    ]

abbrev pub is_outside : Line → Bool
is_outside (row_line r) = false
is_outside (record_line words) = false
is_outside outside = true

-- a record line that was read has as many words as a record
abbrev pub Shaped : Line → Type 0
Shaped (row_line r) = Unit {0}
Shaped (record_line words) = length words ≡ record_words
Shaped outside = Unit {0}

-- ---- the numbers of a record line

extended-mapped : {A B : Type 0} (f : A → B) (c : Bool) (z : A) (ns : List A) → map f (extended c z ns) ≡ extended c (f z) (map f ns)
extended-mapped f c z [] = refl
extended-mapped f c z (t ∷ []) = refl
extended-mapped f c z (t ∷ a ∷ []) = refl
extended-mapped f c z (t ∷ a ∷ b ∷ []) = refl
extended-mapped f true z (t ∷ a ∷ b ∷ p ∷ []) = refl
extended-mapped f false z (t ∷ a ∷ b ∷ p ∷ []) = refl
extended-mapped f c z (t ∷ a ∷ b ∷ p ∷ q ∷ ns) = refl

pub six-mapped : {A B : Type 0} (f : A → B) (e : Edition) (k : ℕ) (z : A) (ns : List A) → map f (six_for e k z ns) ≡ six_for e k (f z) (map f ns)
six-mapped f e k z ns = go e.older
  where
    go : (o : Bool) → map f (cond o (extended (is_row (kind_of k).use_c) z ns) ns) ≡ cond o (extended (is_row (kind_of k).use_c) (f z) (map f ns)) (map f ns)
    go true = extended-mapped f (is_row (kind_of k).use_c) z ns
    go false = refl

extended-count : {A : Type 0} (c : Bool) (z : A) (ns : List A) → length ns ≡ 4 → length (extended c z ns) ≡ 5
extended-count c z [] h = absurd (omega arith)
extended-count c z (t ∷ []) h = absurd (omega arith)
extended-count c z (t ∷ a ∷ []) h = absurd (omega arith)
extended-count c z (t ∷ a ∷ b ∷ []) h = absurd (omega arith)
extended-count true z (t ∷ a ∷ b ∷ p ∷ []) h = refl
extended-count false z (t ∷ a ∷ b ∷ p ∷ []) h = refl
extended-count c z (t ∷ a ∷ b ∷ p ∷ q ∷ ns) h = absurd (omega arith)

pub six-count : {A : Type 0} (e : Edition) (k : ℕ) (z : A) (ns : List A) → length ns ≡ number_count e → length (six_for e k z ns) ≡ 5
six-count e k z ns h = go e.older h
  where
    go : (o : Bool) → length ns ≡ cond o (record_words - 2) (record_words - 1) → length (cond o (extended (is_row (kind_of k).use_c) z ns) ns) ≡ 5
    go true h = extended-count (is_row (kind_of k).use_c) z ns h
    go false h = h

-- the line l was read from the fields fs by the edition e, and has the fields of their edition-3 form
abbrev pub ReadFrom : Edition → List (List ℕ) → Line → Type 0
ReadFrom e fs l = T (not (is_outside l)) → (fields_of l ≡ fields_form e fs) × Shaped l

row_back : (e : Edition) (fs : List (List ℕ)) → ReadFrom e (row_word ∷ fs) (row_of e fs)
unfolding fields_of same
row_back e [] = λ t. absurd t
row_back e (lock ∷ []) = λ t. absurd t
row_back e (lock ∷ vector ∷ []) =
    let a = e.letters in
    by_cond (ReadFrom e (row_word ∷ lock ∷ vector ∷ [])) (is_lock lock && is_vector a vector) (row_line (record { lock = lock_of lock; vector = vector_of a vector })) outside
    (λ t u. (
      ap₂ {C = List (List ℕ)} (λ (x y : List ℕ). row_word ∷ x ∷ y ∷ [])
          (lock-back lock (T-left (is_lock lock) (is_vector a vector) t))
          (letters-back a vector 0 0 (vector-tests a vector (T-right (is_lock lock) (is_vector a vector) t)).letters),
      tt,
    ))
    (λ t u. absurd u)
row_back e (lock ∷ vector ∷ f ∷ fs) = λ t. absurd t

-- the numbers of a record line, printed
numbers-back : (e : Edition) (k : ℕ) (fs : List (List ℕ)) → T (all_of is_number fs) → map decimal (six_for e k 0 (map number_of fs)) ≡ six_for e k (zero_byte ∷ []) fs
numbers-back e k fs t =
    six-mapped decimal e k 0 (map number_of fs)
    ∙ ap₂ (λ (z : List ℕ) (ns : List (List ℕ)). six_for e k z ns) (decimal-small 0 (omega arith)) (undone number_of decimal is_number decimal-back fs t)

record-back : (e : Edition) → Known e.operations → (fs : List (List ℕ)) → ReadFrom e (op_word ∷ fs) (record_in e fs)
unfolding fields_of same
record-back e known [] = λ t. absurd t
record-back e known (name ∷ fs) =
    let ks = e.operations in
    let k = number_named name ks in
    let counted = eqb (length fs) (number_count e) in
    by_cond (ReadFrom e (op_word ∷ name ∷ fs)) (is_name name ks && counted && all_of is_number fs) (record_line (k ∷ six_for e k 0 (map number_of fs))) outside
    (λ t u.
    let right = T-left (is_name name ks && counted) (all_of is_number fs) t in (
      ap₂ {C = List (List ℕ)} (λ (x : List ℕ) (y : List (List ℕ)). op_word ∷ x ∷ y)
          (name_back ks known name (T-left (is_name name ks) counted right))
          (numbers-back e k fs (T-right (is_name name ks && counted) (all_of is_number fs) t)),
      ap suc (six-count e k 0 (map number_of fs) (length-map fs number_of ∙ eqb→eq (length fs) (number_count e) (T-right (is_name name ks) counted right))),
    ))
    (λ t u. absurd u)

pub line-back : (e : Edition) → Known e.operations → (fs : List (List ℕ)) → ReadFrom e fs (line_of e fs)
unfolding line_of
line-back e known [] = λ t. absurd t
line-back e known (f ∷ fs) =
    by_cond (ReadFrom e (f ∷ fs)) (same f row_word) (row_of e fs) (cond (same f op_word) (record_in e fs) outside)
    (λ t. subst (λ (x : List ℕ). ReadFrom e (x ∷ fs) (row_of e fs)) (sym (same→eq f row_word t)) (row_back e fs))
    (λ t.
    by_cond (ReadFrom e (f ∷ fs)) (same f op_word) (record_in e fs) outside
    (λ u. subst (λ (x : List ℕ). ReadFrom e (x ∷ fs) (record_in e fs)) (sym (same→eq f op_word u)) (record-back e known fs))
    (λ u v. absurd v))
