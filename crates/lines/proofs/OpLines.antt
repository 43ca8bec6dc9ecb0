-- A record line by the count of its fields: what each way out has to show. Assumes nothing.
--   op-short              too few fields or too many
--   op-older, op-third    a record line of an older edition, and of edition 3
use mathlib.Core.Path.{◌≡◌, refl, sym, ap, ◌∙◌}
use mathlib.Core.Bool.{Bool, true, false, cond, ◌&&◌}
use mathlib.Core.List.{List, [], ◌∷◌, map}
use Rattle.std.specs.Prelude.{Option}
use Prim.Native.Nat.{ℕ, ◌+◌}
use native.Mathlib.Omega.{arith}
use lib.Dec.{eqb, eqb→eq, not_T}
use lib.ListN.{length, drop}
use Rattle.bits.proofs.Bools.{T-left, T-right, eq→eqb, when_false}
use Rattle.vectors.specs.Lists.{all_of}
use Rattle.grammar.specs.Words.{Edition, edition1, edition3, number_count, six_for}
use Rattle.grammar.specs.Print.{Line, record_line, outside}
use Rattle.grammar.specs.Line.{is_number, number_of, is_name, number_named, record_in}
use Rattle.grammar.proofs.Tests.{is_true}
use Rattle.grammar.proofs.Parts.{nth}
use Rattle.letters.specs.declared.Edition.{Edition as EditionCase}
use Rattle.letters.specs.Model.{edition_model}
use Rattle.letters.specs.Reads.{reading}
use Rattle.lines.specs.Model.{record_told, line_told}
use Rattle.lines.proofs.Editions.{older-told, third-told, older-count, third-count}

six : (fs : List (List ℕ)) → length fs ≡ 6 → fs ≡ nth fs 1 ∷ nth fs 2 ∷ nth fs 3 ∷ nth fs 4 ∷ nth fs 5 ∷ nth fs 6 ∷ []
six [] e = absurd (omega arith)
six (a ∷ []) e = absurd (omega arith)
six (a ∷ b ∷ []) e = absurd (omega arith)
six (a ∷ b ∷ c ∷ []) e = absurd (omega arith)
six (a ∷ b ∷ c ∷ d ∷ []) e = absurd (omega arith)
six (a ∷ b ∷ c ∷ d ∷ f ∷ []) e = absurd (omega arith)
six (a ∷ b ∷ c ∷ d ∷ f ∷ g ∷ []) e = refl
six (a ∷ b ∷ c ∷ d ∷ f ∷ g ∷ h ∷ fs) e = absurd (omega arith)

seven : (fs : List (List ℕ)) → length fs ≡ 7 → fs ≡ nth fs 1 ∷ nth fs 2 ∷ nth fs 3 ∷ nth fs 4 ∷ nth fs 5 ∷ nth fs 6 ∷ nth fs 7 ∷ []
seven [] e = absurd (omega arith)
seven (a ∷ fs) e = ap {B = List (List ℕ)} (λ (l : List (List ℕ)). a ∷ l) (six fs (omega arith))

-- ---- the count of the numbers

pub op-short : (e : Edition) (fs : List (List ℕ)) → (length fs ≡ 2 + number_count e → ⊥) → outside ≡ record_in e (drop 1 fs)
op-short e [] h = refl
op-short e (op ∷ []) h = refl
op-short e (op ∷ name ∷ ns) h =
    let ks = e.operations in
    let counted = eqb (length ns) (number_count e) in
    sym (when_false (is_name name ks && counted && all_of is_number ns) (record_line (number_named name ks ∷ six_for e (number_named name ks) 0 (map number_of ns))) outside
    (not_T (is_name name ks && counted && all_of is_number ns)
    (λ u. two (eqb→eq (length ns) (number_count e) (T-right (is_name name ks) counted (T-left (is_name name ks && counted) (all_of is_number ns) u))))))
  where
    two : length ns ≡ number_count e → ⊥
    two z = h (omega (arith, z))

-- the right count of numbers: the line is what the name and they tell
counted-line : (e : Edition) (name : List ℕ) (ns : List (List ℕ)) → length ns ≡ number_count e → line_told (record_told e name ns) ≡ record_in e (name ∷ ns)
counted-line e name ns h =
    go (is_name name e.operations) (all_of is_number ns)
    ∙ ap (λ (t : Bool). cond (is_name name e.operations && t && all_of is_number ns) (record_line ws) outside) (sym (is_true (eqb (length ns) (number_count e)) (eq→eqb h)))
  where
    ws : List ℕ
    ws = number_named name e.operations ∷ six_for e (number_named name e.operations) 0 (map number_of ns)

    go : (x y : Bool) → line_told (reading (x && y) ws) ≡ cond (x && true && y) (record_line ws) outside
    go true true = refl
    go true false = refl
    go false true = refl
    go false false = refl

-- ---- by the fields fs of a line, in an edition of the code

module _ (e : EditionCase) (fs : List (List ℕ)) (name t a b p : List ℕ) (en : name ≡ nth fs 2) (et : t ≡ nth fs 3) (ea : a ≡ nth fs 4) (eb : b ≡ nth fs 5) (ep : p ≡ nth fs 6) where
  pub op-older : (edition_model e).older ≡ true → length fs ≡ 6 → (o : Option (List ℕ)) → o ≡ record_told edition1 name (t ∷ a ∷ b ∷ p ∷ []) → (l : Line) → l ≡ line_told o → l ≡ record_in (edition_model e) (drop 1 fs)
  op-older older n o told l is =
      let ns = nth fs 3 ∷ nth fs 4 ∷ nth fs 5 ∷ nth fs 6 ∷ [] in
      is
      ∙ ap line_told (told ∙ (λ i. record_told edition1 (en i) (et i ∷ ea i ∷ eb i ∷ ep i ∷ [])) ∙ older-told e older (nth fs 2) ns)
      ∙ counted-line (edition_model e) (nth fs 2) ns (sym (older-count e older))
      ∙ ap (λ (l : List (List ℕ)). record_in (edition_model e) (drop 1 l)) (sym (six fs n))

  pub op-third : (c : List ℕ) → c ≡ nth fs 7 → (edition_model e).older ≡ false → length fs ≡ 7 → (o : Option (List ℕ)) → o ≡ record_told edition3 name (t ∷ a ∷ b ∷ p ∷ c ∷ [])
      → (l : Line) → l ≡ line_told o → l ≡ record_in (edition_model e) (drop 1 fs)
  op-third c ec third n o told l is =
      let ns = nth fs 3 ∷ nth fs 4 ∷ nth fs 5 ∷ nth fs 6 ∷ nth fs 7 ∷ [] in
      is
      ∙ ap line_told (told ∙ (λ i. record_told edition3 (en i) (et i ∷ ea i ∷ eb i ∷ ep i ∷ ec i ∷ [])) ∙ third-told e third (nth fs 2) ns)
      ∙ counted-line (edition_model e) (nth fs 2) ns (sym (third-count e third))
      ∙ ap (λ (l : List (List ℕ)). record_in (edition_model e) (drop 1 l)) (sym (seven fs n))
