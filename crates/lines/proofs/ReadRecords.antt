-- The record of a line from its fields: what each way out has to show. Assumes nothing.
--   four-no-name, four-bad, four-good     a name and four numbers
--   older-none, older-known, older-good   the record of an older line
--   third-none, third-bad, third-good     the record of a line of edition 3
use mathlib.Core.Path.{◌≡◌, sym, ap, ◌∙◌, subst}
use mathlib.Core.Bool.{Bool, ◌&&◌}
use mathlib.Core.List.{List, [], ◌∷◌}
use Rattle.std.specs.Prelude.{Option, Some, None}
use Prim.Native.Nat.{ℕ, ◌<◌}
use lib.Dec.{T}
use lib.ListN.{get_or, take}
use Rattle.bits.proofs.Bools.{T-left, T-right, T_and}
use Rattle.vectors.specs.Lists.{all_of}
use Rattle.vectors.proofs.Lists.{all_of-all, all-all_of}
use Rattle.vectors.proofs.ListParts.{all_left}
use Rattle.operations.specs.Kind.{is_row, Kind}
use Rattle.operations.specs.Kinds.{kinds, is_kind, kind_of}
use Rattle.operations.specs.Record.{kind_word, target_word, first_word, second_word, parameter_word, words_of}
use Rattle.operations.specs.declared.Record.{Record}
use Rattle.grammar.specs.Words.{older_kinds, edition1, edition3, extended}
use Rattle.grammar.specs.Line.{is_number, number_of, is_name, number_named}
use Rattle.grammar.proofs.Tests.{all_of-append, all-at, all_cons, all_one}
use Rattle.letters.specs.Reads.{reading}
use Rattle.letters.proofs.Telling.{tells, tells-not, told, untold}
use Rattle.lines.specs.Model.{record_model, record_told}
use Rattle.lines.proofs.ReadNumbers as Number
use Rattle.lines.proofs.KindNames.{named, all_kinds, named-known}

module _ (name t a b p : List ℕ) where
  abbrev fields : List (List ℕ)
  fields = t ∷ a ∷ b ∷ p ∷ []

  abbrev passes : List Kind → Bool
  passes ks = is_name name ks && all_of is_number fields

  abbrev made : List Kind → List ℕ
  made ks = number_named name ks ∷ number_of t ∷ number_of a ∷ number_of b ∷ number_of p ∷ 0 ∷ []

  -- what the name and four numbers tell
  abbrev Four : List Kind → Option (List ℕ) → Type 0
  Four ks o = o ≡ reading (passes ks) (made ks)

  -- ---- a name and four numbers

  module _ (ks : List Kind) where
    pub four-no-name : None ≡ named name ks → Four ks None
    four-no-name o = tells-not (passes ks) (made ks) (λ u. untold (is_name name ks) (number_named name ks) o (T-left (is_name name ks) (all_of is_number fields) u))

    -- number i of the four is none
    pub four-bad : (i : ℕ) → i < 4 → Number.Read (get_or fields i []) None → Four ks None
    four-bad i l o =
        tells-not (passes ks) (made ks)
        (λ u. untold (is_number (get_or fields i [])) (number_of (get_or fields i [])) o (all-at is_number fields [] i l (T-right (is_name name ks) (all_of is_number fields) u)))

    pub four-good : (k x y z w : ℕ) → Some k ≡ named name ks → Number.Read t (Some x) → Number.Read a (Some y) → Number.Read b (Some z) → Number.Read p (Some w)
        → Four ks (Some (k ∷ x ∷ y ∷ z ∷ w ∷ 0 ∷ []))
    four-good k x y z w ek ex ey ez ew =
        let gk = told (is_name name ks) (number_named name ks) k ek in
        let gx = told (is_number t) (number_of t) x ex in
        let gy = told (is_number a) (number_of a) y ey in
        let gz = told (is_number b) (number_of b) z ez in
        let gw = told (is_number p) (number_of p) w ew in
        tells (passes ks) (made ks) (k ∷ x ∷ y ∷ z ∷ w ∷ 0 ∷ [])
        (T_and (is_name name ks) (all_of is_number fields) gk.0
        (all_cons is_number t (a ∷ b ∷ p ∷ []) gx.0 (all_cons is_number a (b ∷ p ∷ []) gy.0 (all_cons is_number b (p ∷ []) gz.0 (all_one is_number p gw.0)))))
        (λ j. gk.1 j ∷ gx.1 j ∷ gy.1 j ∷ gz.1 j ∷ gw.1 j ∷ 0 ∷ [])

  -- ---- an older line

  abbrev older : List Kind
  older = take older_kinds kinds

  -- the words of an older record, from the four numbers
  abbrev placed : List ℕ → List ℕ
  placed ws = kind_word ws ∷ extended (is_row (kind_of (kind_word ws)).use_c) 0 (target_word ws ∷ first_word ws ∷ second_word ws ∷ parameter_word ws ∷ [])

  -- by the answer q for the name and the four numbers
  pub older-none : (q : Option Record) → Four older (record_model q) → q ≡ None → None ≡ record_told edition1 name fields
  older-none q found is = tells-not (passes older) (placed (made older)) (untold (passes older) (made older) (sym (ap record_model is) ∙ found))

  module _ (q : Option Record) (found : Four older (record_model q)) (r : Record) (is : q ≡ Some r) where
    o : Four older (Some (words_of r))
    o = sym (ap record_model is) ∙ found

    pub older-known : T (is_kind r.kind)
    older-known =
        let g = told (passes older) (made older) (words_of r) o in
        named-known name r.kind (T-left (is_name name older) (all_of is_number fields) g.0) (ap kind_word g.1)

    pub older-good : (ws : List ℕ) → ws ≡ r.kind ∷ extended (is_row (kind_of r.kind).use_c) 0 (r.t ∷ r.a ∷ r.b ∷ r.p ∷ []) → Some ws ≡ record_told edition1 name fields
    older-good ws e =
        let g = told (passes older) (made older) (words_of r) o in
        tells (passes older) (placed (made older)) ws g.0 (e ∙ ap placed g.1)

  -- ---- a line of edition 3

  module _ (c : List ℕ) where
    abbrev all_fields : List (List ℕ)
    all_fields = t ∷ a ∷ b ∷ p ∷ c ∷ []

    abbrev passes_all : Bool
    passes_all = is_name name kinds && all_of is_number all_fields

    abbrev made_all : List ℕ
    made_all = number_named name kinds ∷ number_of t ∷ number_of a ∷ number_of b ∷ number_of p ∷ number_of c ∷ []

    first-four : T passes_all → T (passes kinds)
    first-four u =
        T_and (is_name name kinds) (all_of is_number fields) (T-left (is_name name kinds) (all_of is_number all_fields) u)
        (all-all_of is_number fields (all_left (λ f. T (is_number f)) fields (c ∷ []) (all_of-all is_number all_fields (T-right (is_name name kinds) (all_of is_number all_fields) u))))

    -- the first 26 kinds are all
    all-of : (o : Option (List ℕ)) → Four (take 26 kinds) o → Four kinds o
    all-of o h = subst (λ (ks : List Kind). Four ks o) all_kinds h

    pub third-none : (q : Option Record) → Four (take 26 kinds) (record_model q) → q ≡ None → None ≡ record_told edition3 name all_fields
    third-none q found is = tells-not passes_all made_all (λ u. untold (passes kinds) (made kinds) (all-of None (sym (ap record_model is) ∙ found)) (first-four u))

    pub third-bad : Number.Read c None → None ≡ record_told edition3 name all_fields
    third-bad o =
        tells-not passes_all made_all
        (λ u. untold (is_number c) (number_of c) o (all-last (T-right (is_name name kinds) (all_of is_number all_fields) u)))
      where
        all-last : T (all_of is_number all_fields) → T (is_number c)
        all-last u = (all_of-all is_number all_fields u).1.1.1.1.0

    pub third-good : (q : Option Record) → Four (take 26 kinds) (record_model q) → (r : Record) → q ≡ Some r → (x : ℕ) → Number.Read c (Some x)
        → Some (r.kind ∷ r.t ∷ r.a ∷ r.b ∷ r.p ∷ x ∷ []) ≡ record_told edition3 name all_fields
    third-good q found r is x ex =
        let g = told (passes kinds) (made kinds) (words_of r) (all-of (Some (words_of r)) (sym (ap record_model is) ∙ found)) in
        let gx = told (is_number c) (number_of c) x ex in
        tells passes_all made_all (r.kind ∷ r.t ∷ r.a ∷ r.b ∷ r.p ∷ x ∷ [])
        (T_and (is_name name kinds) (all_of is_number all_fields) (T-left (is_name name kinds) (all_of is_number fields) g.0)
        (all_of-append is_number fields (c ∷ []) (T-right (is_name name kinds) (all_of is_number fields) g.0) (all_one is_number c gx.0)))
        (λ j. kind_word (g.1 j) ∷ target_word (g.1 j) ∷ first_word (g.1 j) ∷ second_word (g.1 j) ∷ parameter_word (g.1 j) ∷ gx.1 j ∷ [])
