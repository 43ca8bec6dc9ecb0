-- The search: what is sought stays possible in one of the two cases, and the last choice left has it. Assumes nothing.
use mathlib.Core.Path.{◌≡◌, sym, ap, subst, ◌∙◌}
use mathlib.Core.Bool.{Bool, true, false}
use mathlib.Core.Logic.{inl, inr}
use mathlib.Core.List.{List, [], ◌∷◌}
use Prim.Native.Nat.{ℕ, ◌<◌}
use native.Mathlib.Omega.{arith}
use lib.Dec.{T}
use Rattle.bits.specs.Bit.{bit}
use Rattle.vectors.specs.Lists.{All}
use Rattle.vectors.specs.Row.{WellFormed}
use Rattle.vectors.specs.Choice.{Chosen}
use Rattle.vectors.specs.Best.{may}
use Rattle.vectors.specs.OutputBits.{output_bit}
use Rattle.vectors.proofs.Bests.{may-intro, may-elim}
use Rattle.vectors.proofs.BestLaws.{known-chosen}
use Rattle.operations.specs.Kinds.{kind_of}
use Rattle.operations.specs.Result.{result_of}
use Rattle.columns.specs.Formed.{Formed}
use Rattle.witness_search.specs.declared.Operands.{Operands}
use Rattle.witness_search.specs.Witness.{plain_of, Makes}
use Rattle.witness_search.specs.Search.{rows_of, case_of, UnknownLeft, may_be, Asked, Sought, Narrower}
use Rattle.witness_search.proofs.Possible.{told-may}
use Rattle.witness_search.proofs.Cases.{Halves, halves}

both-formed : (w : ℕ) (o : Operands) → Formed w o.a.mask o.a.value o.b.mask o.b.value → All WellFormed (rows_of w o)
both-formed w o F = (F.first, (F.second, tt))

-- ---- an output bit of an operation

pub possible-of : (kind w k d : ℕ) (o : Operands) → Asked kind w k o → d < 2
    → may_be (output_bit (result_of (kind_of kind) w 0 (rows_of w o)) k) d ≡ may (plain_of kind w) (rows_of w o) d k
unfolding result_of
possible-of kind w k d o A l = told-may w (plain_of kind w) (rows_of w o) (both-formed w o A.formed) k A.below d l

-- ---- a turn

module _ (kind w k d : ℕ) (o : Operands) (S : Sought kind w k d o) (u : UnknownLeft o) where
  H : Halves w o (case_of o)
  H = halves w o S.asked.formed u

  pub case-asked : (b : ℕ) → b < 2 → Asked kind w k (case_of o b)
  case-asked b h = record { kind_is = S.asked.kind_is; formed = H.formed b h; below = S.asked.below }

  -- d is possible in the case b
  abbrev In : ℕ → Bool
  In b = may (plain_of kind w) (rows_of w (case_of o b)) d k

  narrower : (b : ℕ) → b < 2 → T (In b) → Narrower kind w k d o (case_of o b)
  narrower b h t =
      record {
        sought = record { asked = case-asked b h; value = S.value; possible = t };
        inside = H.inside b h;
        less = H.less b;
      }

  -- the output bit of the first case
  abbrev found : Bool
  found = may_be (output_bit (result_of (kind_of kind) w 0 (rows_of w (case_of o 0))) k) d

  found-is : found ≡ In 0
  found-is = possible-of kind w k d (case_of o 0) (case-asked 0 (omega arith)) S.value

  pub first-case : found ≡ true → Narrower kind w k d o (case_of o 0)
  first-case e = narrower 0 (omega arith) (subst T (sym e ∙ found-is) tt)

  -- a choice that gives d is in the first case or in the second
  pub second-case : found ≡ false → Narrower kind w k d o (case_of o 1)
  second-case e =
      let f = plain_of kind w in
      let g = may-elim w f (rows_of w o) d k S.possible in
      narrower 1 (omega arith)
      (elim (H.either g.numbers g.chosen) [
        | inl c ↦ absurd (subst T (sym found-is ∙ e) (may-intro w f (rows_of w (case_of o 0)) d k g.numbers c g.gives))
        | inr c ↦ may-intro w f (rows_of w (case_of o 1)) d k g.numbers c g.gives
      ])

-- ---- the end

pub last-choice : (kind w k d : ℕ) (o : Operands) → Sought kind w k d o → o.a.mask ≡ 0 → o.b.mask ≡ 0 → Makes (plain_of kind w) (rows_of w o) k d (o.a.value ∷ o.b.value ∷ [])
last-choice kind w k d o S a b =
    let g = may-elim w (plain_of kind w) (rows_of w o) d k S.possible in
    let e : g.numbers ≡ o.a.value ∷ o.b.value ∷ [] = known-chosen (rows_of w o) g.numbers (both-formed w o S.asked.formed) (a, (b, tt)) g.chosen in
    record {
      covered = subst (Chosen (rows_of w o)) e g.chosen;
      makes = ap (λ (ns : List ℕ). bit (plain_of kind w ns) k) (sym e) ∙ g.gives;
    }
