-- The search for a name. Assumes nothing.
--   named              what a list of kinds says of a name
--   kind-here, kind-later, kind-none   the ways out of the search
--   all_kinds          the first of all kinds, as many as there are;   all-few   there are no fewer
--   named-known        the number of a name is a kind's
use mathlib.Core.Path.{◌≡◌, sym, ap, ◌∙◌, subst}
use mathlib.Core.Bool.{Bool, true, false, cond, ◌&&◌, ◌||◌}
use mathlib.Core.List.{List, ◌∷◌}
use Rattle.std.specs.Prelude.{Option, Some, None}
use Prim.Native.Nat.{ℕ, suc, ◌+◌, ◌≤◌, ◌<◌}
use native.Mathlib.Numerals.{add-one}
use native.Mathlib.Omega.{arith}
use lib.Dec.{T, eqb, eqb→eq}
use lib.ListN.{length, get_or, take, drop, drop_of_length-le}
use lib.Seq.{drop-cons, get_or-take, length-take-le, take_all}
use Rattle.bits.specs.Below.{all_below}
use Rattle.bits.proofs.Bools.{T-left, T-right}
use Rattle.operations.specs.Kind.{Kind}
use Rattle.operations.specs.Kinds.{kinds, kind_count, op_none, is_kind, kind_of}
use Rattle.operations.proofs.Lookup.{kind-test, below-kind}
use Rattle.vectors.specs.Lists.{all_of}
use Rattle.grammar.specs.Lists.{same}
use Rattle.grammar.specs.Words.{older_kinds}
use Rattle.grammar.specs.Line.{is_name, number_named}
use Rattle.grammar.proofs.Tests.{same→eq}
use Rattle.grammar.proofs.Names.{named as by_name}
use Rattle.letters.specs.Reads.{reading}

-- the kind's place in the list
place-right : ℕ → Bool
place-right k = same (get_or kinds k op_none).name (kind_of k).name && eqb (get_or kinds k op_none).number k

places-right : T (all_below kind_count place-right)
unfolding place-right all_below same kind_count kind_of
places-right = tt

-- what a list of kinds says of a name
abbrev pub named : List ℕ → List Kind → Option ℕ
named f ks = reading (is_name f ks) (number_named f ks)

-- by kind k of the first n, and the answer r of the comparison with its name
module _ (f : List ℕ) (n k : ℕ) (most : n ≤ kind_count) where
  abbrev ks : List Kind
  ks = take n kinds

  length-ks : length ks ≡ n
  unfolding kind_count
  length-ks = length-take-le n kinds most

  module _ (below : k < n) (r : Bool) (e : r ≡ same f (kind_of k).name) where
    abbrev at : Kind
    at = get_or kinds k op_none

    whole : T (same at.name (kind_of k).name && eqb at.number k)
    unfolding place-right
    whole = kind-test place-right places-right k (below-kind k (omega arith))

    number_at : at.number ≡ k
    number_at = eqb→eq at.number k (T-right (same at.name (kind_of k).name) (eqb at.number k) whole)

    here : drop k ks ≡ at ∷ drop (suc k) ks
    here = drop-cons ks k op_none (omega (arith, length-ks)) ∙ ap {B = List Kind} (λ (x : Kind). x ∷ drop (suc k) ks) (get_or-take n kinds k op_none below)

    answer : same f at.name ≡ r
    answer = ap (same f) (same→eq at.name (kind_of k).name (T-left (same at.name (kind_of k).name) (eqb at.number k) whole)) ∙ sym e

    abbrev by : Bool → Option ℕ
    by b = reading (b || is_name f (drop (suc k) ks)) (cond b at.number (number_named f (drop (suc k) ks)))

    pub kind-here : r ≡ true → named f (drop k ks) ≡ Some k
    kind-here t = ap (named f) here ∙ ap by (answer ∙ t) ∙ ap Some number_at

    pub kind-later : r ≡ false → named f (drop k ks) ≡ named f (drop (k + 1) ks)
    kind-later t = ap (named f) here ∙ ap by (answer ∙ t) ∙ ap (λ (j : ℕ). named f (drop j ks)) (sym (add-one k))

  pub kind-none : n ≤ k → named f (drop k ks) ≡ None
  kind-none h = ap (named f) (drop_of_length-le ks {i = k} (omega (arith, length-ks)))

-- as many as there are, are all
pub all_kinds : take 26 kinds ≡ kinds
unfolding kind_count
all_kinds = take_all 26 kinds (omega arith)

pub all-few : 26 ≤ kind_count
unfolding kind_count
all-few = omega arith

-- ---- the number that a name finds is a kind's

abbrev is_numbered : Kind → Bool
is_numbered k = is_kind k.number

older-numbered : T (all_of is_numbered (take older_kinds kinds))
unfolding all_of is_kind
older-numbered = tt

pub named-known : (f : List ℕ) (k : ℕ) → T (is_name f (take older_kinds kinds)) → k ≡ number_named f (take older_kinds kinds) → T (is_kind k)
named-known f k t e =
    let h = by_name is_numbered f (take older_kinds kinds) t older-numbered in
    subst (λ (n : ℕ). T (is_kind n)) (h.number_is ∙ sym e) h.passes
