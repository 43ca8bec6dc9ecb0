-- The names of the operations: each rule is one computed test of all kinds. Assumes nothing.
--   kind-passes       a test of all kinds holds of the kind that a number finds
--   name-known, name-number   the name of a known kind is a name, and that kind's
--   Known ks          every kind of the list is well named;   known-all, known-older   all kinds, and those of the older editions
--   name_back         the kind that a name finds has that name
--   clean             no byte of a word is a separator;   name-clean   a name is clean
use mathlib.Core.Path.{◌≡◌, sym, ap, ◌∙◌}
use mathlib.Core.Bool.{Bool, ◌&&◌}
use mathlib.Core.Logic.{inl, inr}
use mathlib.Core.List.{List, [], ◌∷◌}
use Prim.Native.Nat.{ℕ}
use lib.Dec.{T, ltb, eqb, eqb→eq}
use lib.ListN.{take}
use Rattle.bits.proofs.Bools.{T-left, T-right, when_true, when_false}
use Rattle.operations.specs.Kind.{Kind}
use Rattle.operations.specs.Kinds.{kinds, is_kind, kind_of}
use Rattle.operations.proofs.Lookup.{each-kind}
use Rattle.grammar.specs.Lists.{same}
use Rattle.vectors.specs.Lists.{all_of}
use Rattle.grammar.specs.Words.{older_kinds}
use Rattle.grammar.specs.Line.{is_name, number_named}
use Rattle.grammar.proofs.Tests.{decide, or_right, same→eq}
use Rattle.vectors.proofs.Lists.{all_of-all}

-- ---- a kind found in a list

pub kind-passes : (p : Kind → Bool) → T (all_of p kinds) → (n : ℕ) → T (is_kind n) → T (p (kind_of n)) × ((kind_of n).number ≡ n)
kind-passes p u n t = each-kind (λ k. T (p k)) (all_of-all p kinds u) n t

-- the kind that a name finds, with a test that all kinds pass
pub record FoundByName (p : Kind → Bool) (f : List ℕ) (ks : List Kind) : Type 0 where
  pub kind : Kind
  pub passes : T (p kind)
  pub name_is : kind.name ≡ f
  pub number_is : kind.number ≡ number_named f ks

pub named : (p : Kind → Bool) (f : List ℕ) (ks : List Kind) → T (is_name f ks) → T (all_of p ks) → FoundByName p f ks
unfolding all_of
named p f [] t u = absurd t
named p f (k ∷ ks) t u =
    elim (decide (same f k.name)) [
      | inl v ↦
          record {
            kind = k;
            passes = T-left (p k) (all_of p ks) u;
            name_is = sym (same→eq f k.name v);
            number_is = sym (when_true (same f k.name) k.number (number_named f ks) v);
          }
      | inr v ↦
          let r = named p f ks (or_right (same f k.name) (is_name f ks) t v) (T-right (p k) (all_of p ks) u) in
          record { kind = r.kind; passes = r.passes; name_is = r.name_is; number_is = r.number_is ∙ sym (when_false (same f k.name) k.number (number_named f ks) v) }
    ]

-- ---- the kinds of 01

abbrev pub clean : List ℕ → Bool
clean f = all_of (λ b. ltb 32 b) f

abbrev well_named : Kind → Bool
well_named k = is_name k.name kinds && eqb (number_named k.name kinds) k.number && same (kind_of k.number).name k.name && clean k.name

names-right : T (all_of well_named kinds)
unfolding all_of same kind_of
names-right = tt

-- the names of a list of kinds are those of its kinds
abbrev pub Known : List Kind → Type 0
Known ks = T (all_of well_named ks)

pub known-all : Known kinds
known-all = names-right

pub known-older : Known (take older_kinds kinds)
unfolding all_of same kind_of
known-older = tt

-- the four parts of the test
parts : (k : Kind) → T (well_named k) → T (is_name k.name kinds) × (number_named k.name kinds ≡ k.number) × ((kind_of k.number).name ≡ k.name) × T (clean k.name)
parts k t =
    let a = is_name k.name kinds in
    let b = eqb (number_named k.name kinds) k.number in
    let c = same (kind_of k.number).name k.name in
    let t₃ = T-left (a && b && c) (clean k.name) t in
    let t₂ = T-left (a && b) c t₃ in
    (T-left a b t₂, eqb→eq (number_named k.name kinds) k.number (T-right a b t₂), same→eq (kind_of k.number).name k.name (T-right (a && b) c t₃), T-right (a && b && c) (clean k.name) t)

module _ (n : ℕ) (known : T (is_kind n)) where
  pub name-known : T (is_name (kind_of n).name kinds)
  name-known = (parts (kind_of n) (kind-passes well_named names-right n known).0).0

  pub name-number : number_named (kind_of n).name kinds ≡ n
  name-number = let h = kind-passes well_named names-right n known in (parts (kind_of n) h.0).1 ∙ h.1

  pub name-clean : T (clean (kind_of n).name)
  name-clean = (parts (kind_of n) (kind-passes well_named names-right n known).0).3

pub name_back : (ks : List Kind) → Known ks → (f : List ℕ) → T (is_name f ks) → (kind_of (number_named f ks)).name ≡ f
name_back ks known f t =
    let h = named well_named f ks t known in
    ap (λ (n : ℕ). (kind_of n).name) (sym h.number_is) ∙ (parts h.kind h.passes).2 ∙ h.name_is
